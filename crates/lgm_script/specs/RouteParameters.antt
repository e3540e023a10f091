-- Route parameters, as lines encode them.
use Rattle.std.specs.Prelude.{ℕ, ◌^◌, List, [], ◌∷◌, Option, Some, None}
use Rattle.lgm_script.specs.declared.grammar.route_parameters.RouteParameters.{RouteParameters}
use Rattle.lgm_script.specs.Field.{◌>>=◌, number_of, number_below, array_of, point_of}

-- PAYER PAYEE MSAT EXPIRY SECRET
abbrev pub payment_of : List (List ℕ) → Option RouteParameters
payment_of (payer ∷ payee ∷ msat ∷ expiry ∷ secret ∷ []) = do
  payer ← point_of payer
  payee ← point_of payee
  amount ← number_of msat
  expiry ← number_below (2 ^ 32) expiry
  secret ← array_of 32 secret
  Some (record { payer = payer; payee = payee; amount = amount; expiry = expiry; secret = secret })
payment_of _ = None
