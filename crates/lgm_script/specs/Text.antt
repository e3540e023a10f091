-- The lines of answers.
use Rattle.std.specs.Prelude.{ℕ, ◌/◌, ◌%◌, ◌^◌, List, ◌++◌, Option, Some, None, codes}
use Rattle.std.specs.Fmt.{decimal}
use Rattle.hex.specs.Hex.{encode_lower}
use Rattle.lgm_script.specs.declared.output.text.Line.{Line}
use Rattle.lgm_script.specs.declared.output.text.Line.TheVariants as lines

-- N WORD
abbrev pub word_line : ℕ → List ℕ → List ℕ
word_line number word = decimal number ++ codes " " ++ word ++ codes "\n"

-- N commit V
abbrev pub commit_line : ℕ → ℕ → List ℕ
commit_line number count = decimal number ++ codes " commit " ++ decimal count ++ codes "\n"

-- what precedes a message: N, and the peer, if it is for one
abbrev pub lead : ℕ → Option ℕ → List ℕ
lead number None = decimal number ++ codes " "
lead number (Some peer) = decimal number ++ codes " to " ++ decimal peer ++ codes " "

-- HEX behind its lead
abbrev pub message_behind : List ℕ → List ℕ → List ℕ
message_behind front message = front ++ encode_lower message ++ codes "\n"

-- N HEX, or N to PEER HEX
abbrev pub message_line : ℕ → Option ℕ → List ℕ → List ℕ
message_line number peer message = message_behind (lead number peer) message

-- N route SENT EXPIRY K
abbrev pub route_line : ℕ → ℕ → ℕ → ℕ → List ℕ
route_line number sent expiry count =
    decimal number ++ codes " route " ++ decimal sent ++ codes " " ++ decimal expiry ++ codes " "
    ++ decimal count ++ codes "\n"

-- a channel id, from its number: BLOCKxINDEXxOUTPUT
abbrev pub scid_text : ℕ → List ℕ
scid_text id =
    decimal (id / 2 ^ 40) ++ codes "x" ++ decimal (id / 2 ^ 16 % 2 ^ 24) ++ codes "x" ++ decimal (id % 2 ^ 16)

-- N hop SCID HEX
abbrev pub hop_line : ℕ → ℕ → List ℕ → List ℕ
hop_line number id payload =
    decimal number ++ codes " hop " ++ scid_text id ++ codes " " ++ encode_lower payload ++ codes "\n"

-- the line of an answer that is no message, each of its forms
abbrev pub line_text : ℕ → Line → List ℕ
line_text number (lines.Word word) = word_line number word.now
line_text number (lines.Commit count) = commit_line number count
line_text number (lines.Route sent expiry count) = route_line number sent expiry count
line_text number (lines.Hop id payload) = hop_line number id payload.now
