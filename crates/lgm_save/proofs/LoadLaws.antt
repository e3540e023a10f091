-- Loading records one by one.
use Rattle.std.proofs.Common.{◌≡◌, ◌≢◌, ℕ, ◌<◌, List, [], ◌∷◌, ◌++◌, map, length, Option, Some, None, refl, sym, ap, ◌∙◌, arith, append_assoc}
use Rattle.std.specs.Prelude.{IfSome, IfOk, Result, Ok, Err}
use Rattle.std.specs.List.{AllByRecursion, flat_map}
use Rattle.std.proofs.lemmas.List.{length-append}
use Rattle.std.proofs.lemmas.List.Concat.{flat_map-append}
use Rattle.lgm_wire.specs.declared.chain_hash.ChainHash.{ChainHash}
use Rattle.lgm_store.specs.declared.op.Op.{Op}
use Rattle.lgm_store.specs.Rows.{Rows, empty}
use Rattle.lgm_store.specs.History.{absorbed, fold}
use Rattle.lgm_store.proofs.Histories.{fold_from-push}
use Rattle.lgm_store.proofs.ListLaws.{All-append}
use Rattle.lgm_save.specs.declared.record.Record.{Record}
use Rattle.lgm_save.specs.Records.{IsRecord, bytes_of, op_of}
use Rattle.lgm_save.specs.Saved.{headed, sealed}
use Rattle.lgm_save.specs.Numbers.{in_eight}
use Rattle.lgm_save.specs.Loaded.{IsLoaded, IsNotSaved}
use Rattle.lgm_save.specs.inner.Reading.{Finds, FindsNone}
use Rattle.lgm_save.specs.inner.Partly.{IsPartly}
use Rattle.lgm_save.specs.Saved.{opening}
use Rattle.lgm_save.proofs.NumberLaws.{front_same, rest_same, length-in_eight}
use Rattle.lgm_save.proofs.SavedLaws.{some_bytes, parts_left, length-sealed, length-headed}

map-push : {X Y : Type 0} (f : X → Y) (xs : List X) (x : X) → map f (xs ++ x ∷ []) ≡ map f xs ++ f x ∷ []
map-push f [] x = refl
map-push f (y ∷ ys) x = ap (λ zs. f y ∷ zs) (map-push f ys x)

append-nil : {X : Type 0} (xs : List X) → xs ++ [] ≡ xs
append-nil [] = refl
append-nil {X} (x ∷ xs) = ap (λ (ys : List X). x ∷ ys) (append-nil xs)

pub partly_none : (body : List ℕ) (rows : Rows) → rows ≡ empty → IsPartly body rows body
partly_none body rows is = record { done = []; lawful = tt; parts = refl; rows_are = is }

pub partly_more : (body rest behind : List ℕ) (rows rows' : Rows) (r : Record) (op : Op) → IsPartly body rows rest → Finds rest r behind
    → op ≡ op_of r → rows' ≡ absorbed rows op → IsPartly body rows' behind
partly_more body rest behind rows rows' r op partly found is new =
    record {
      done = partly.done ++ r ∷ [];
      lawful = All-append IsRecord partly.done (r ∷ []) partly.lawful (found.lawful, tt);
      parts =
          partly.parts ∙ ap (λ (s : List ℕ). flat_map bytes_of partly.done ++ s) found.parts
          ∙ sym (append_assoc (flat_map bytes_of partly.done) (bytes_of r) behind)
          ∙ ap (λ (s : List ℕ). s ++ behind) (ap (λ (s : List ℕ). flat_map bytes_of partly.done ++ s) (sym (append-nil (bytes_of r)))
          ∙ sym (flat_map-append bytes_of partly.done (r ∷ [])));
      rows_are =
          new ∙ ap (λ (x : Rows). absorbed x op) partly.rows_are ∙ ap (absorbed (fold (map op_of partly.done))) is
          ∙ sym (fold_from-push empty (map op_of partly.done) (op_of r)) ∙ ap fold (sym (map-push op_of partly.done r));
    }

pub shrinks : (rest behind : List ℕ) (r : Record) → Finds rest r behind → length behind < length rest
shrinks rest behind r found = omega (arith, ap length found.parts, length-append (bytes_of r) behind, some_bytes r)

-- the bytes of one body
pub body_same : (chain : ChainHash) (body body' : List ℕ) → sealed (headed chain body) ≡ sealed (headed chain body') → body ≡ body'
body_same chain body body' e =
    let total : length (sealed (headed chain body)) ≡ length (sealed (headed chain body')) = ap length e in
    let len : length body ≡ length body' = omega (arith, length-sealed (headed chain body), length-sealed (headed chain body'), length-headed chain body, length-headed chain body') in
    let heads : length (headed chain body) ≡ length (headed chain body') = omega (arith, length-headed chain body, length-headed chain body') in
    let one = front_same (headed chain body) (headed chain body') _ _ heads e in
    let behind = rest_same opening opening (chain.0 ++ (in_eight (length body) ++ body)) (chain.0 ++ (in_eight (length body') ++ body')) refl one in
    let last = rest_same chain.0 chain.0 (in_eight (length body) ++ body) (in_eight (length body') ++ body') refl behind in
    rest_same (in_eight (length body)) (in_eight (length body')) body body' (length-in_eight (length body) ∙ sym (length-in_eight (length body'))) last

pub not_saved_at : (chain : ChainHash) (bytes body rest : List ℕ) (rows : Rows) → bytes ≡ sealed (headed chain body) → IsPartly body rows rest
    → length rest ≢ 0 → FindsNone rest → IsNotSaved chain bytes
not_saved_at chain bytes body rest rows is partly some none records lawful e =
    let same = body_same chain body (flat_map bytes_of records) (sym is ∙ e) in
    let left = parts_left partly.done records rest partly.lawful lawful (sym partly.parts ∙ same) in
    by left.0 left.1 left.3
  where
    by : (left : List Record) → AllByRecursion IsRecord left → rest ≡ flat_map bytes_of left → ⊥
    by [] all at = some (ap length at)
    by (l ∷ ls) all at = none l (flat_map bytes_of ls) all.0 at

pub loaded_whole : (chain : ChainHash) (bytes body rest : List ℕ) (rows : Rows) → bytes ≡ sealed (headed chain body) → IsPartly body rows rest
    → length rest ≡ 0 → IsLoaded chain bytes rows
loaded_whole chain bytes body rest rows is partly empty' =
    record {
      records = partly.done;
      lawful = partly.lawful;
      bytes_are = is ∙ ap (λ (s : List ℕ). sealed (headed chain s)) (partly.parts ∙ by rest empty');
      rows_are = partly.rows_are;
    }
  where
    by : (s : List ℕ) → length s ≡ 0 → flat_map bytes_of partly.done ++ s ≡ flat_map bytes_of partly.done
    by [] e = append-nil (flat_map bytes_of partly.done)
    by (x ∷ xs) e = absurd (omega arith)

-- what holds of what is in an option
pub if_some_to : {A : Type 0} {P Q : A → Type 0} (o : Option A) → ((a : A) → P a → Q a) → IfSome o P → IfSome o Q
if_some_to None to has = has
if_some_to (Some a) to has = to a has

pub if_ok_to : {A E : Type 0} {P Q : A → Type 0} (r : Result A E) → ((a : A) → P a → Q a) → IfOk r P → IfOk r Q
if_ok_to (Ok a) to has = to a has
if_ok_to (Err e) to has = tt
