-- Requests, each in its turn.
use Rattle.std.proofs.Common.{◌≡◌, ℕ, ◌+◌, ◌<◌, List, [], ◌∷◌, ◌++◌, length, get_or, drop, refl, sym, ap, subst, ◌∙◌}
use Rattle.std.specs.List.{AllZip}
use Rattle.std.proofs.lemmas.List.{drop_more}
use Rattle.lgm_script.specs.declared.output.SendFault.{SendFault}
use Rattle.lgm_script.specs.Output.{OutputState, Tells, TellsPart}
use Rattle.lgm_script.proofs.WrittenTextLaws.{Onward, onward_more, onward_stops, onward_ends}
use Rattle.lgm_run.specs.inner.Turns.{behind_all, texts_of}

module _ {S Q A : Type 0} (after : S → Q → S) (text : ℕ → S → Q → List ℕ) (R : Q → A → Type 0) (last : S)
    (old : OutputState) (whole : List ℕ) where
  -- the requests to which these items belong lead to the last state, and their texts are the rest of the whole text
  pub record AreLeft (items : List A) (number : ℕ) (state : S) (mid : OutputState) : Type 0 where
    pub asked : List Q
    pub known : AllZip R asked items
    pub leads : behind_all after state asked ≡ last
    pub told : Onward old mid whole (texts_of after text number state asked)

  -- the request of the first item, what is known of it, and how its turn can end
  pub record IsNext (item : A) (others : List A) (number : ℕ) (state : S) (mid : OutputState) : Type 0 where
    pub request : Q
    pub known : R request item
    pub goes_on : (state' : S) (new : OutputState) (line : List ℕ) → state' ≡ after state request
        → line ≡ text number state request → Tells mid new line → AreLeft others (number + 1) state' new
    pub stops : (new : OutputState) (line : List ℕ) (fault : SendFault) → line ≡ text number state request
        → TellsPart mid new line fault → TellsPart old new whole fault

  next_of : (asked : List Q) (item : A) (others : List A) (number : ℕ) (state : S) (mid : OutputState)
      → AllZip R asked (item ∷ others) → behind_all after state asked ≡ last
      → Onward old mid whole (texts_of after text number state asked) → IsNext item others number state mid
  next_of [] item others number state mid known leads told = absurd known
  next_of (request ∷ asked) item others number state mid known leads told =
      let rest = texts_of after text (number + 1) (after state request) asked in
      record {
        request = request;
        known = known.0;
        goes_on = λ state' new line goes is line_told. record {
          asked = asked;
          known = known.1;
          leads = ap (λ s. behind_all after s asked) goes ∙ leads;
          told =
              subst (λ s. Onward old new whole (texts_of after text (number + 1) s asked)) (sym goes)
              (onward_more old mid new whole (text number state request ++ rest) line rest told
              (ap (λ t. t ++ rest) (sym is)) line_told);
        };
        stops = λ new line fault is part.
            onward_stops old mid new whole (text number state request ++ rest) line rest fault told
            (ap (λ t. t ++ rest) (sym is)) part;
      }

  done_of : (asked : List Q) (number : ℕ) (state : S) (mid : OutputState) → AllZip R asked []
      → behind_all after state asked ≡ last → Onward old mid whole (texts_of after text number state asked)
      → (state ≡ last) × Tells old mid whole
  done_of [] number state mid known leads told = (leads, onward_ends old mid whole [] told refl)
  done_of (request ∷ asked) number state mid known leads told = absurd known

module _ {S Q A : Type 0} {after : S → Q → S} {text : ℕ → S → Q → List ℕ} {R : Q → A → Type 0} {last : S}
    {old : OutputState} {whole : List ℕ} {items : List A} {number : ℕ} {state : S} {mid : OutputState}
    (left : AreLeft after text R last old whole items number state mid) where
  pub next_turn : (item : A) (others : List A) → items ≡ item ∷ others
      → IsNext after text R last old whole item others number state mid
  next_turn item others is =
      next_of after text R last old whole left.asked item others number state mid
      (subst (AllZip R left.asked) is left.known) left.leads left.told

  -- the turn of the item at a place of a slice
  pub turn_at : (all : List A) (k : ℕ) (item : A) → items ≡ drop k all → k < length all
      → item ≡ get_or all k item → IsNext after text R last old whole item (drop (k + 1) all) number state mid
  turn_at all k item are below is =
      next_turn item (drop (k + 1) all)
      (are ∙ drop_more all k item below ∙ ap (λ i. i ∷ drop (k + 1) all) (sym is))

  -- all had their turns
  pub all_done : items ≡ [] → (state ≡ last) × Tells old mid whole
  all_done none =
      done_of after text R last old whole left.asked number state mid
      (subst (AllZip R left.asked) none left.known) left.leads left.told
