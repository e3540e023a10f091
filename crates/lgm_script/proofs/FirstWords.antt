-- What lines request, by their first word.
use Rattle.std.proofs.Common.{ℕ, Bool, true, false, cond, ◌||◌, List, [], ◌∷◌, length, take, drop, Option, Some, None, inl, inr}
use Rattle.std.specs.Prelude.{codes, nat_eq, nat_lt, ◌<◌, ◌==◌, IfSome, unwrap_or}
use Rattle.std.specs.List.{starts_with}
use Rattle.std.specs.Option.{option_map}
use Rattle.std.specs.Cmp.Lexicographic.{pointwise}
use Rattle.std.proofs.lemmas.Bool.{cases_Bool, ltb-true}
use Rattle.lgm_script.specs.declared.grammar.line_form.Word.{Word}
use Rattle.lgm_script.specs.declared.grammar.line_form.Word.TheVariants.{Message, Close, Query, Filter, Route}
use Rattle.lgm_script.specs.declared.grammar.command.Command.{Command}
use Rattle.lgm_script.specs.declared.grammar.command.Command.TheVariants as requests
use Rattle.lgm_script.specs.Field.{◌>>=◌, fields_of, number_of, number_below}
use Rattle.lgm_script.specs.Item.{bytes_of, gossip_of, close_of}
use Rattle.lgm_script.specs.RouteParameters.{payment_of}
use Rattle.lgm_script.specs.Command.{filter_of, command_by, command_of, HasLawfulPeer}
use Rattle.lgm_script.specs.inner.Kinds.{kind_by}
use Rattle.lgm_script.specs.Groups.{IsOfKind}

-- a number that is parsed is below its limit
below : (limit : ℕ) (number : Option ℕ) → IfSome (number >>= λ n. cond (nat_lt n limit) (Some n) None) (λ n. n < limit)
below limit None = tt
below limit (Some n) = elim (cases_Bool (nat_lt n limit)) [ inl is ↦ rw is (ltb-true n limit is) | inr is ↦ rw is tt ]

module _ (P : Command → Type 0) (bad : P requests.Bad) where
  -- what is parsed, or malformed
  made_or_bad : {X : Type 0} (make : X → Command) → ((x : X) → P (make x)) → (found : Option X) → P (unwrap_or (option_map make found) requests.Bad)
  made_or_bad make made None = bad
  made_or_bad make made (Some x) = made x

  filter_or_bad : ((peer : ℕ) (bytes : List ℕ) → peer < 1000 → P (requests.Filter peer bytes))
      → (fields : List (List ℕ)) → P (unwrap_or (filter_of fields) requests.Bad)
  filter_or_bad made [] = bad
  filter_or_bad made (peer ∷ []) = bad
  filter_or_bad made (peer ∷ hex ∷ []) = by (number_below 1000 peer) (bytes_of hex) (below 1000 (number_of peer))
    where
      by : (number : Option ℕ) (bytes : Option (List ℕ)) → IfSome number (λ p. p < 1000)
          → P (unwrap_or (number >>= λ p. bytes >>= λ b. Some (requests.Filter p b)) requests.Bad)
      by None bytes small = bad
      by (Some number) None small = bad
      by (Some number) (Some bytes) small = made number bytes small
  filter_or_bad made (peer ∷ hex ∷ more ∷ fields) = bad

-- what a word requests is of its kind, and a peer lawful
abbrev pub Asks : Word → Command → Type 0
Asks word request = IsOfKind (kind_by word) request × HasLawfulPeer request

pub word_asks : (word : Word) (text : List ℕ) → Asks word (command_by word text)
word_asks Message text =
    made_or_bad (Asks Message) (tt, tt) (λ item. requests.Offer item) (λ item. (tt, tt)) (gossip_of (fields_of 32 text))
word_asks Close text =
    made_or_bad (Asks Close) (tt, tt) (λ item. requests.Offer item) (λ item. (tt, tt)) (close_of (fields_of 32 text))
word_asks Query text =
    made_or_bad (Asks Query) (tt, tt) (λ bytes. requests.Query bytes) (λ bytes. (tt, tt)) (bytes_of text)
word_asks Filter text = filter_or_bad (Asks Filter) (tt, tt) (λ peer bytes small. (tt, small)) (fields_of 32 text)
word_asks Route text =
    made_or_bad (Asks Route) (tt, tt) (λ payment. requests.Route payment) (λ payment. (tt, tt)) (payment_of (fields_of 32 text))
word_asks _ text = (tt, tt)

-- ---- lines

-- of two requests, by a test
one_of : (P : Command → Type 0) (test : Bool) (one other : Command) → P one → P other → P (cond test one other)
one_of P true one other is is_other = is
one_of P false one other is is_other = is_other

-- peers are lawful
pub request_is_lawful : (line : List ℕ) → HasLawfulPeer (command_of line)
request_is_lawful line =
    one_of HasLawfulPeer (pointwise nat_eq (take 2 line) (codes "m ")) _ _ (lawful Message (drop 2 line))
    (one_of HasLawfulPeer (pointwise nat_eq (take 6 line) (codes "close ")) _ _ (lawful Close (drop 6 line))
    (one_of HasLawfulPeer (pointwise nat_eq (take 2 line) (codes "q ")) _ _ (lawful Query (drop 2 line))
    (one_of HasLawfulPeer (pointwise nat_eq (take 7 line) (codes "filter ")) _ _ (lawful Filter (drop 7 line))
    (one_of HasLawfulPeer (pointwise nat_eq (take 6 line) (codes "route ")) _ _ (lawful Route (drop 6 line))
    (one_of HasLawfulPeer (pointwise nat_eq line (codes "commit")) _ _ tt
    (one_of HasLawfulPeer ((length line == 0) || starts_with nat_eq line (codes "#")) _ _ tt tt))))))
  where
    lawful : (word : Word) (text : List ℕ) → HasLawfulPeer (command_by word text)
    lawful word text = let asks = word_asks word text in asks.1
