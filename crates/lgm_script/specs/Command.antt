-- What a line requests.
use Rattle.std.specs.Prelude.{ℕ, ◌<◌, List, [], ◌∷◌, length, take, drop, Option, Some, None}
use Rattle.std.specs.Prelude.{unwrap_or, codes, nat_eq, ◌==◌, ◌||◌, if◌then◌else◌}
use Rattle.std.specs.List.{starts_with}
use Rattle.std.specs.Option.{option_map}
use Rattle.std.specs.Cmp.Lexicographic.{pointwise}
use Rattle.lgm_script.specs.declared.grammar.command.Command.{Command}
use Rattle.lgm_script.specs.declared.grammar.command.Command.TheVariants as requests
use Rattle.lgm_script.specs.declared.grammar.item.Item.{Item}
use Rattle.lgm_script.specs.declared.grammar.line_form.Word.{Word}
use Rattle.lgm_script.specs.declared.grammar.line_form.Word.TheVariants as words
use Rattle.lgm_script.specs.Field.{◌>>=◌, fields_of, number_below}
use Rattle.lgm_script.specs.Item.{bytes_of, gossip_of, close_of}
use Rattle.lgm_script.specs.RouteParameters.{payment_of}

-- PEER HEX, the peer below 1,000
abbrev pub filter_of : List (List ℕ) → Option Command
filter_of (peer ∷ hex ∷ []) = do
  peer ← number_below 1000 peer
  bytes ← bytes_of hex
  Some (requests.Filter peer bytes)
filter_of _ = None

-- peers are numbers below 1,000
abbrev pub HasLawfulPeer : Command → Type 0
HasLawfulPeer (requests.Filter peer bytes) = peer < 1000
HasLawfulPeer _ = Unit {0}

-- the forms of the grammar: a word, and the fields after it
abbrev pub form_of : Word → List ℕ → Option Command
form_of words.Message text = option_map (λ item. requests.Offer item) (gossip_of (fields_of 32 text))
form_of words.Close text = option_map (λ item. requests.Offer item) (close_of (fields_of 32 text))
form_of words.Query text = option_map (λ bytes. requests.Query bytes) (bytes_of text)
form_of words.Filter text = filter_of (fields_of 32 text)
form_of words.Route text = option_map (λ payment. requests.Route payment) (payment_of (fields_of 32 text))
form_of words.Commit text = Some requests.Commit
form_of words.Quiet text = Some requests.Quiet
form_of words.Unknown text = None

-- what a word requests, with the text after it
abbrev pub command_by : Word → List ℕ → Command
command_by word text = unwrap_or (form_of word text) requests.Bad

-- what a line requests
abbrev pub command_of : List ℕ → Command
command_of line =
    if pointwise nat_eq (take 2 line) (codes "m ") then command_by words.Message (drop 2 line)
    else if pointwise nat_eq (take 6 line) (codes "close ") then command_by words.Close (drop 6 line)
    else if pointwise nat_eq (take 2 line) (codes "q ") then command_by words.Query (drop 2 line)
    else if pointwise nat_eq (take 7 line) (codes "filter ") then command_by words.Filter (drop 7 line)
    else if pointwise nat_eq (take 6 line) (codes "route ") then command_by words.Route (drop 6 line)
    else if pointwise nat_eq line (codes "commit") then requests.Commit
    else if (length line == 0) || starts_with nat_eq line (codes "#") then requests.Quiet
    else requests.Bad

-- the item that is offered
abbrev pub item_in : Command → Option Item
item_in (requests.Offer item) = Some item
item_in _ = None
