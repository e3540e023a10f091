-- Lines that are answered together.
use Rattle.std.specs.Prelude.{◌≡◌, ℕ, ◌+◌, ◌<◌, ◌≤◌, List, [], ◌∷◌, length, map, take, drop, Option}
use Rattle.std.specs.List.{AllByRecursion}
use Rattle.lgm_script.specs.declared.grammar.line_form.LineKind.{LineKind}
use Rattle.lgm_script.specs.declared.grammar.line_form.LineKind.TheVariants.{Item, Question, Other}
use Rattle.lgm_script.specs.declared.grammar.command.Command.{Command}
use Rattle.lgm_script.specs.declared.grammar.command.Command.TheVariants as requests
use Rattle.lgm_script.specs.Command.{command_of}
use Rattle.lgm_script.specs.Lines.{IsFirstLine}

-- these lines are complete at the start of what was read ahead, and these bytes follow them
abbrev pub AreFirstLines : List ℕ → Option (List ℕ) → List (List ℕ) → List ℕ → Type 0
AreFirstLines buffered left [] rest = rest ≡ buffered
AreFirstLines buffered left (line ∷ lines) rest =
    (line ≡ take (length line) buffered) × IsFirstLine buffered left (length line)
    × AreFirstLines (drop (length line + 1) buffered) left lines rest

-- these are the next lines of what was read ahead, they have this many bytes, and none is too long
pub record AreNext (buffered : List ℕ) (first len : ℕ) (lines : List (List ℕ)) : Type 0 where
  pub some : 0 < length lines
  pub few : len ≤ length buffered
  pub short : AllByRecursion (λ line. length line ≤ 140000) lines
  pub front : (left : Option (List ℕ)) → IsFirstLine buffered left first
      → AreFirstLines buffered left lines (drop len buffered)

-- this is what the next lines request
pub record AskNext (buffered : List ℕ) (first len : ℕ) (asked : List Command) : Type 0 where
  pub lines : List (List ℕ)
  pub next : AreNext buffered first len lines
  pub asked_is : asked ≡ map command_of lines

-- what a line of that kind can request; whatever its first word is, it may be malformed
abbrev pub IsOfKind : LineKind → Command → Type 0
IsOfKind kind requests.Bad = Unit {0}
IsOfKind Item (requests.Offer item) = Unit {0}
IsOfKind Question (requests.Query bytes) = Unit {0}
IsOfKind Question (requests.Filter peer bytes) = Unit {0}
IsOfKind Question (requests.Route payment) = Unit {0}
IsOfKind Other requests.Quiet = Unit {0}
IsOfKind Other requests.Commit = Unit {0}
IsOfKind kind _ = ⊥

-- one or more lines that request what lines of a kind can request, or one line of another kind
pub record AreAlike (kind : LineKind) (asked : List Command) : Type 0 where
  pub some : 0 < length asked
  pub each : AllByRecursion (IsOfKind kind) asked
  pub alone : kind ≡ Other → length asked ≡ 1

-- not a request for a route
abbrev pub IsNoRoute : Command → Type 0
IsNoRoute (requests.Route payment) = ⊥
IsNoRoute _ = Unit {0}
