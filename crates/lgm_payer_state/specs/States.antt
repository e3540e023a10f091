-- The bytes of a payer's state, and of what was learnt alone.
use Rattle.std.specs.Prelude.{ℕ, List, [], ◌∷◌, ◌++◌}
use Rattle.lgm_save.specs.Saved.{sealed}
use Rattle.lgm_graph.specs.Estimates.{Entries}
use Rattle.lgm_payer.specs.Payers.{PayerState}
use Rattle.lgm_payer_state.specs.Written.{IsBack}
use Rattle.lgm_payer_state.specs.Estimates.{learnt_bytes}
use Rattle.lgm_payer_state.specs.Payers.{payer_bytes}
use Rattle.lgm_payer_state.specs.reading.EstimatesReading.{learnt_at}
use Rattle.lgm_payer_state.specs.reading.PayersReading.{payer_at}

-- the text "lgm pay" with a line feed, and the version of the format, 1, in four bytes
unfoldable pub opening : List ℕ
opening = 108 ∷ 103 ∷ 109 ∷ 32 ∷ 112 ∷ 97 ∷ 121 ∷ 10 ∷ 0 ∷ 0 ∷ 0 ∷ 1 ∷ []

-- the opening, the payer, and a checksum of both
abbrev pub state_bytes : PayerState → List ℕ
state_bytes payer = sealed (opening ++ payer_bytes payer)

-- a state that reading gives back: so is that of each payer that was written
pub record IsKept (payer : PayerState) : Type 0 where
  pub back : IsBack payer_bytes payer_at payer

-- ---- what was learnt

-- the text "lgm est" with a line feed, and the version of the format, 1, in four bytes
unfoldable pub estimates_opening : List ℕ
estimates_opening = 108 ∷ 103 ∷ 109 ∷ 32 ∷ 101 ∷ 115 ∷ 116 ∷ 10 ∷ 0 ∷ 0 ∷ 0 ∷ 1 ∷ []

-- the opening, what was learnt, and a checksum of both
abbrev pub estimates_bytes : Entries → List ℕ
estimates_bytes learnt = sealed (estimates_opening ++ learnt_bytes learnt)

-- estimates that reading gives back: so are all that were written
pub record AreKept (learnt : Entries) : Type 0 where
  pub back : IsBack learnt_bytes learnt_at learnt
