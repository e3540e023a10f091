mod Logs
mod Followings
mod Pasts
