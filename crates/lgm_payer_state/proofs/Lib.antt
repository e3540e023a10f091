pub mod StepLaws
pub mod ListLaws
pub mod PaymentLaws
pub mod EstimateLaws
pub mod PayerLaws
pub mod StateLaws
