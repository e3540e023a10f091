-- Bytes that a device accepted, one run after the other.
use Rattle.std.proofs.Common.{ℕ, List, [], ◌++◌, Option, Some, None, refl, sym, ap, ◌∙◌, append_assoc}
use Rattle.std.specs.Option.{option_map}
use Rattle.std.proofs.lemmas.List.{append-nil}
use Rattle.lgm_script.specs.Device.{Appends}

-- no byte was accepted
pub appends_nothing : (old : Option (List ℕ)) → Appends old old []
appends_nothing None = refl
appends_nothing (Some taken) = ap (λ (s : List ℕ). Some s) (sym (append-nil taken))

-- two runs of bytes that were accepted are one
pub appends_both : (old mid new : Option (List ℕ)) (a b : List ℕ) → Appends old mid a → Appends mid new b → Appends old new (a ++ b)
appends_both None mid new a b first then = then ∙ ap (option_map (λ taken. taken ++ b)) first
appends_both (Some taken) mid new a b first then =
    then ∙ ap (option_map (λ taken. taken ++ b)) first ∙ ap (λ (s : List ℕ). Some s) (append_assoc taken a b)
