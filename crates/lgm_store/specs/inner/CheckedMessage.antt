-- Checked messages whose rows are stored.
use Rattle.lgm_check.specs.declared.row.Checked.{Checked}
use Rattle.lgm_check.specs.declared.row.Checked.TheVariants as messages
use Rattle.lgm_store.specs.declared.checked_message.StoredMessage.{StoredMessage}
use Rattle.lgm_store.specs.declared.checked_message.StoredMessage.TheVariants as stored

-- what `precheck` returns for the message
abbrev pub message_of : StoredMessage → Checked
message_of (stored.Channel row) = messages.Channel row
message_of (stored.Update row signer) = messages.Update row signer
message_of (stored.Node row) = messages.Node row
