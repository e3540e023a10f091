-- Lines one after the other.
use Rattle.std.proofs.Common.{◌≡◌, ℕ, get_or, ◌<◌, ◌+◌, ◌≤◌, List, [], ◌∷◌, ◌++◌, length, take, drop}
use Rattle.std.proofs.Common.{min, Option, refl, sym, ap, subst, ◌∙◌, arith}
use Rattle.std.specs.List.{AllByRecursion}
use Rattle.std.proofs.lemmas.List.{length-take-le, length-drop, length_push, map-append, drop_min, drop-drop, drop_more, take_more}
use Rattle.lgm_script.specs.declared.input.line_reader.TheConstants.{MAX_LINE}
use Rattle.lgm_script.specs.declared.grammar.command.Command.{Command}
use Rattle.lgm_script.specs.Lines.{IsFirstLine}
use Rattle.lgm_script.specs.Command.{command_of}
use Rattle.lgm_script.specs.Groups.{AreFirstLines, AskNext}

-- what is left after the first bytes, if there are as many
drop_least : (n : ℕ) (bytes : List ℕ) → drop (min (length bytes) n) bytes ≡ drop n bytes
drop_least n bytes = ap (λ k. drop k bytes) (omega arith) ∙ drop_min n bytes

-- what the first one alone requests
pub first_asks : (buffered : List ℕ) (first : ℕ) → first ≤ length buffered → first ≤ MAX_LINE
    → AskNext buffered first (min (length buffered) (first + 1)) (command_of (take first buffered) ∷ [])
first_asks buffered first within small =
    let len : length (take first buffered) ≡ first = length-take-le first buffered within in
    record {
      lines = take first buffered ∷ [];
      next = record {
        some = omega arith;
        few = omega arith;
        short = (omega (arith, len, small), tt);
        front = λ left line. (
          ap (λ k. take k buffered) (sym len),
          subst (IsFirstLine buffered left) (sym len) line,
          drop_least (first + 1) buffered ∙ ap (λ k. drop (k + 1) buffered) (sym len),
        );
      };
      asked_is = refl;
    }

-- one more after them
pub first_lines-push : (bytes : List ℕ) (left : Option (List ℕ)) (lines : List (List ℕ))
    (line rest behind : List ℕ) → AreFirstLines bytes left lines rest
    → line ≡ take (length line) rest → IsFirstLine rest left (length line)
    → behind ≡ drop (length line + 1) rest → AreFirstLines bytes left (lines ++ line ∷ []) behind
first_lines-push bytes left [] line rest behind is front first behind_is =
    (front ∙ ap (take (length line)) is, subst (λ b. IsFirstLine b left (length line)) is first, behind_is ∙ ap (drop (length line + 1)) is)
first_lines-push bytes left (l ∷ lines) line rest behind are front first behind_is =
    (are.0, are.1, first_lines-push (drop (length l + 1) bytes) left lines line rest behind are.2 front first behind_is)

pub each-push : {X : Type 0} (P : X → Type 0) (xs : List X) (x : X) → AllByRecursion P xs → P x → AllByRecursion P (xs ++ x ∷ [])
each-push P [] x all one = (one, tt)
each-push P (y ∷ ys) x all one = (all.0, each-push P ys x all.1 one)

-- what one more line requests
pub one_more_asks : {buffered : List ℕ} {first len : ℕ} {asked : List Command} (count : ℕ) → AskNext buffered first len asked
    → ((left : Option (List ℕ)) → IsFirstLine (drop len buffered) left count) → count < length (drop len buffered)
    → count ≤ MAX_LINE → AskNext buffered first (len + (count + 1)) (asked ++ command_of (take count (drop len buffered)) ∷ [])
one_more_asks {buffered} {first} {len} {asked} count so_far found within small =
    let rest = drop len buffered in
    let line = take count rest in
    let size : length line ≡ count = length-take-le count rest (omega (arith, within)) in
    record {
      lines = so_far.lines ++ line ∷ [];
      next = record {
        some = omega (arith, length_push so_far.lines line);
        few = omega (arith, within, length-drop len buffered, so_far.next.few);
        short = each-push (λ l. length l ≤ MAX_LINE) so_far.lines line so_far.next.short (omega (arith, size, small));
        front =
            λ left is. first_lines-push buffered left so_far.lines line rest (drop (len + (count + 1)) buffered)
            (so_far.next.front left is) (ap (λ k. take k rest) (sym size)) (subst (IsFirstLine rest left) (sym size) (found left))
            (sym (drop-drop (count + 1) len buffered) ∙ ap (λ k. drop (k + 1) rest) (sym size));
      };
      asked_is =
          ap (λ a. a ++ command_of line ∷ []) so_far.asked_is ∙ sym (map-append command_of so_far.lines (line ∷ []));
    }

-- the element at an index, and those after it
pub record StandsAt {X : Type 0} (xs : List X) (k : ℕ) (d x : X) (others : List X) : Type 0 where
  pub within : k < length xs
  pub here : get_or xs k d ≡ x
  pub front : take (k + 1) xs ≡ take k xs ++ x ∷ []
  pub behind : drop (k + 1) xs ≡ others

pub stands_at : {X : Type 0} (xs : List X) (k : ℕ) (d x : X) (others : List X) → drop k xs ≡ x ∷ others → StandsAt xs k d x others
stands_at {X} xs k d x others e =
    let lt : k < length xs = omega (arith, ap length e, length-drop k xs) in
    let parts : get_or xs k d ∷ drop (k + 1) xs ≡ x ∷ others = sym (drop_more xs k d lt) ∙ e in
    let at : get_or xs k d ≡ x = ap (λ (ls : List X). get_or ls 0 d) parts in
    record {
      within = lt;
      here = at;
      front = take_more xs k d lt ∙ ap (λ (l : X). take k xs ++ l ∷ []) at;
      behind = ap (drop 1) parts;
    }
