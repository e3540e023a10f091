-- A message passes the tests in their order if and only if it is to be accepted.
use Rattle.std.proofs.Common.{◌≡◌, ℕ, ◌/◌, ◌%◌, ◌≤◌, Bool, true, false, List, Result, Ok, Err, not, refl, sym, ap, subst, ◌∙◌, arith, inl, inr}
use Rattle.std.specs.Prelude.{nat_eq, nat_le, if◌then◌else◌, IfOk, MatchResult, IsTrue}
use Rattle.std.specs.Cmp.Lexicographic.{pointwise, bytes_decides}
use Rattle.lgm_wire.specs.reading.Reading.{◌>>=◌}
use Rattle.lgm_gossip.specs.Memory.{GivesIf}
use Rattle.lgm_wire.proofs.ReadingLaws.{ok_is}
use Rattle.lgm_wire.proofs.Bytes.{IsBytes}
use Rattle.lgm_gossip.specs.declared.fault.DecodeFault.{DecodeFault}
use Rattle.lgm_gossip.specs.declared.message.Message.{Message}
use Rattle.lgm_gossip.specs.declared.message.Message.TheVariants as messages
use Rattle.lgm_gossip.specs.declared.announce.Announce.{Announce}
use Rattle.lgm_gossip.specs.declared.channel_update.ChannelUpdate.{ChannelUpdate}
use Rattle.lgm_gossip.specs.declared.node_announce.NodeAnnounce.{NodeAnnounce}
use Rattle.lgm_wire.specs.declared.point.Point.{Point}
use Rattle.lgm_wire.specs.declared.chain_hash.ChainHash.{ChainHash}
use Rattle.lgm_wire.specs.Point.{is_lawful}
use Rattle.lgm_gossip.specs.Message.{Wire}
use Rattle.lgm_gossip.specs.reading.MessageReading.{message_at}
use Rattle.lgm_gossip.proofs.MessageLaws.{message_takes, message_again}
use Rattle.lgm_check.specs.declared.evidence.Evidence.{Evidence}
use Rattle.lgm_check.specs.declared.evidence.Sig.{Sig}
use Rattle.lgm_check.specs.declared.evidence.Sig.TheVariants as sigs
use Rattle.lgm_check.specs.declared.evidence.Funding.{Funding}
use Rattle.lgm_check.specs.declared.evidence.Funding.TheVariants as fundings
use Rattle.lgm_check.specs.declared.row.ChannelRow.{ChannelRow}
use Rattle.lgm_check.specs.declared.row.UpdateRow.{UpdateRow}
use Rattle.lgm_check.specs.declared.row.NodeRow.{NodeRow}
use Rattle.lgm_check.specs.declared.row.Checked.{Checked}
use Rattle.lgm_check.specs.declared.row.Checked.TheVariants as checked
use Rattle.lgm_check.specs.declared.refusal.Refusal.{Refusal}
use Rattle.lgm_check.specs.declared.refusal.Refusal.TheVariants as refusals
use Rattle.lgm_check.specs.Precheck.{require, has_lawful_points, are_in_order, capacity_of, is_all_four, is_private, signer_of}
use Rattle.lgm_check.specs.Precheck.{checked_announce, checked_update, checked_node, checked_read, checked_of}
use Rattle.lgm_check.specs.Accepted.{IsChannel, IsUpdate, IsNode, IsAccepted}

abbrev Step : Type 0
Step = Result Checked Refusal

-- ---- the steps of a check that did not refuse

-- a test that succeeded, and the result of the rest
passed : (holds : Bool) (refusal : Refusal) (rest : Step) (made : Checked)
    → (require holds refusal >>= λ _. rest) ≡ Ok made → IsTrue holds × (rest ≡ Ok made)
passed true refusal rest made e = (refl, e)
passed false refusal rest made e = absurd cc

record IsFunded (funding : Funding) (next : ℕ → Step) (made : Checked) : Type 0 where
  sat : ℕ
  unspent : funding ≡ fundings.Unspent sat
  limit : sat ≤ 2100000000000000
  rest : next sat ≡ Ok made

funded : (funding : Funding) (next : ℕ → Step) (made : Checked) → (capacity_of funding >>= next) ≡ Ok made → IsFunded funding next made
funded (fundings.Unspent sat) next made e = go (nat_le sat 2100000000000000) refl e
  where
    go : (small : Bool) → nat_le sat 2100000000000000 ≡ small → ((if small then Ok sat
        else Err refusals.Funding) >>= next) ≡ Ok made → IsFunded (fundings.Unspent sat) next made
    go true is e = record { sat = sat; unspent = refl; limit = grind arith; rest = e }
    go false is e = absurd cc
funded fundings.Spent next made e = absurd cc
funded fundings.Wrong next made e = absurd cc
funded fundings.NotAsked next made e = absurd cc

record IsSigned (sig : Sig) (next : Point → Step) (made : Checked) : Type 0 where
  signer : Point
  by : sig ≡ sigs.By signer
  rest : next signer ≡ Ok made

signed : (sig : Sig) (next : Point → Step) (made : Checked) → (signer_of sig >>= next) ≡ Ok made → IsSigned sig next made
signed (sigs.By point) next made e = record { signer = point; by = refl; rest = e }
signed (sigs.AllFour right) next made e = absurd cc
signed sigs.Nobody next made e = absurd cc

all_four : (sig : Sig) → IsTrue (is_all_four sig) → sig ≡ sigs.AllFour true
all_four (sigs.AllFour true) e = refl
all_four (sigs.AllFour false) e = absurd cc
all_four (sigs.By point) e = absurd cc
all_four sigs.Nobody e = absurd cc

-- ---- tests, and what they say

chain_is : (a b : ChainHash) → IsTrue (pointwise nat_eq a.0 b.0) → a ≡ b
chain_is a b e = ap (λ (hash : List ℕ). let chain : ChainHash = record { 0 = hash } in chain) ((bytes_decides a.0 b.0).0 e)

chain_test : (a b : ChainHash) → a ≡ b → IsTrue (pointwise nat_eq a.0 b.0)
chain_test a b e = (bytes_decides a.0 b.0).1 (ap (λ (chain : ChainHash). chain.0) e)

point_is : (a b : Point) → IsTrue (pointwise nat_eq a.0 b.0) → a ≡ b
point_is a b e = ap (λ (bytes : List ℕ). let point : Point = record { 0 = bytes } in point) ((bytes_decides a.0 b.0).0 e)

point_test : (a : Point) → IsTrue (pointwise nat_eq a.0 a.0)
point_test a = (bytes_decides a.0 a.0).1 refl

limit_test : (sat : ℕ) → sat ≤ 2100000000000000 → IsTrue (nat_le sat 2100000000000000)
limit_test sat le = grind arith

public_is : (m : ChannelUpdate) → IsTrue (not (is_private m)) → m.message_flags / 2 % 2 ≡ 0
public_is m e = grind arith

public_test : (m : ChannelUpdate) → m.message_flags / 2 % 2 ≡ 0 → IsTrue (not (is_private m))
public_test m e = rw e refl

-- ---- type by type

pub channel_takes : (chain : ChainHash) (m : Announce) (bytes : List ℕ) (evidence : Evidence) (made : Checked) → Wire (messages.Announce m) bytes
    → checked_announce chain m bytes evidence ≡ Ok made → IsAccepted chain bytes evidence made
unfolding checked_announce
channel_takes chain m bytes evidence made wire e =
    let row : ℕ → Step = λ sat. Ok (checked.Channel (record { message = m; sat = sat; raw = bytes })) in
    let signing : ℕ → Step = λ sat. require (is_all_four evidence.sig) refusals.Signature >>= λ _. row sat in
    let funding : Step = capacity_of evidence.funding >>= signing in
    let ordering : Step = require (are_in_order m) refusals.NodeOrder >>= λ _. funding in
    let pointing : Step = require (has_lawful_points m) refusals.Point >>= λ _. ordering in
    let a = passed (pointwise nat_eq m.chain_hash.0 chain.0) refusals.Chain pointing made e in
    let b = passed (has_lawful_points m) refusals.Point ordering made a.1 in
    let c = passed (are_in_order m) refusals.NodeOrder funding made b.1 in
    let d = funded evidence.funding signing made c.1 in
    let f = passed (is_all_four evidence.sig) refusals.Signature (row d.sat) made d.rest in
    subst (λ (x : Checked). IsAccepted chain bytes evidence x)
    (ok_is (checked.Channel (record { message = m; sat = d.sat; raw = bytes })) made f.1) (record {
      spelled = wire;
      chain = chain_is m.chain_hash chain a.0;
      points = b.0;
      order = c.0;
      funding = d.unspent;
      limit = d.limit;
      signature = all_four evidence.sig f.0;
      raw = refl;
    })

pub update_takes : (chain : ChainHash) (m : ChannelUpdate) (bytes : List ℕ) (evidence : Evidence) (made : Checked) → Wire (messages.ChannelUpdate m) bytes
    → checked_update chain m bytes evidence ≡ Ok made → IsAccepted chain bytes evidence made
unfolding checked_update
update_takes chain m bytes evidence made wire e =
    let row : Point → Step = λ signer. Ok (checked.Update (record { message = m; raw = bytes }) signer) in
    let signing : Step = signer_of evidence.sig >>= row in
    let sending : Step = require (not (is_private m)) refusals.Private >>= λ _. signing in
    let a = passed (pointwise nat_eq m.chain_hash.0 chain.0) refusals.Chain sending made e in
    let b = passed (not (is_private m)) refusals.Private signing made a.1 in
    let c = signed evidence.sig row made b.1 in
    subst (λ (x : Checked). IsAccepted chain bytes evidence x)
    (ok_is (checked.Update (record { message = m; raw = bytes }) c.signer) made c.rest) (record {
      spelled = wire;
      chain = chain_is m.chain_hash chain a.0;
      public = public_is m b.0;
      signature = c.by;
      raw = refl;
    })

pub node_takes : (chain : ChainHash) (m : NodeAnnounce) (bytes : List ℕ) (evidence : Evidence) (made : Checked) → Wire (messages.NodeAnnounce m) bytes
    → checked_node m bytes evidence ≡ Ok made → IsAccepted chain bytes evidence made
unfolding checked_node
node_takes chain m bytes evidence made wire e =
    let row : Step = Ok (checked.Node (record { message = m; raw = bytes })) in
    let matching : Point → Step = λ signer. require (pointwise nat_eq signer.0 m.node_id.0) refusals.Signature >>= λ _. row in
    let signing : Step = signer_of evidence.sig >>= matching in
    let a = passed (is_lawful m.node_id) refusals.Point signing made e in
    let b = signed evidence.sig matching made a.1 in
    let c = passed (pointwise nat_eq b.signer.0 m.node_id.0) refusals.Signature row made b.rest in
    subst (λ (x : Checked). IsAccepted chain bytes evidence x) (ok_is (checked.Node (record { message = m; raw = bytes })) made c.1) (record {
      spelled = wire;
      point = a.0;
      signature = b.by ∙ ap (λ (p : Point). sigs.By p) (point_is b.signer m.node_id c.0);
      raw = refl;
    })

channel_again : (chain : ChainHash) (bytes : List ℕ) (evidence : Evidence) (row : ChannelRow) → IsChannel chain bytes evidence row
    → checked_announce chain row.message bytes evidence ≡ Ok (checked.Channel row)
unfolding checked_announce
channel_again chain bytes evidence row is =
    rw (chain_test row.message.chain_hash chain is.chain, is.points, is.order, is.funding, limit_test row.sat is.limit, is.signature)
    (ap (λ (raw : List ℕ). let kept : Step = Ok (checked.Channel (record { message = row.message; sat = row.sat; raw = raw })) in kept) (sym is.raw))

update_again : (chain : ChainHash) (bytes : List ℕ) (evidence : Evidence) (row : UpdateRow) (signer : Point)
    → IsUpdate chain bytes evidence row signer
    → checked_update chain row.message bytes evidence ≡ Ok (checked.Update row signer)
unfolding checked_update
update_again chain bytes evidence row signer is =
    rw (chain_test row.message.chain_hash chain is.chain, public_test row.message is.public, is.signature)
    (ap (λ (raw : List ℕ). let kept : Step = Ok (checked.Update (record { message = row.message; raw = raw }) signer) in kept) (sym is.raw))

node_again : (bytes : List ℕ) (evidence : Evidence) (row : NodeRow) → IsNode bytes evidence row
    → checked_node row.message bytes evidence ≡ Ok (checked.Node row)
unfolding checked_node
node_again bytes evidence row is =
    rw (is.point, is.signature, point_test row.message.node_id)
    (ap (λ (raw : List ℕ). let kept : Step = Ok (checked.Node (record { message = row.message; raw = raw })) in kept) (sym is.raw))

-- ---- all types

read_takes : (chain : ChainHash) (bytes : List ℕ) (evidence : Evidence) (made : Checked)
    (read : Result Message DecodeFault) → IsBytes bytes → message_at bytes ≡ read
    → checked_read chain read bytes evidence ≡ Ok made → IsAccepted chain bytes evidence made
read_takes chain bytes evidence made (Ok (messages.Announce m)) fits at e =
    channel_takes chain m bytes evidence made (message_takes bytes (messages.Announce m) fits at) e
read_takes chain bytes evidence made (Ok (messages.ChannelUpdate m)) fits at e =
    update_takes chain m bytes evidence made (message_takes bytes (messages.ChannelUpdate m) fits at) e
read_takes chain bytes evidence made (Ok (messages.NodeAnnounce m)) fits at e =
    node_takes chain m bytes evidence made (message_takes bytes (messages.NodeAnnounce m) fits at) e
read_takes chain bytes evidence made (Ok (messages.IdsQuery m)) fits at e = absurd cc
read_takes chain bytes evidence made (Ok (messages.IdsEnd m)) fits at e = absurd cc
read_takes chain bytes evidence made (Ok (messages.RangeQuery m)) fits at e = absurd cc
read_takes chain bytes evidence made (Ok (messages.RangeReply m)) fits at e = absurd cc
read_takes chain bytes evidence made (Ok (messages.FilterMsg m)) fits at e = absurd cc
read_takes chain bytes evidence made (Err fault) fits at e = absurd cc

pub accepted : (chain : ChainHash) (bytes : List ℕ) (evidence : Evidence) (made : Checked) → IsBytes bytes
    → checked_of chain bytes evidence ≡ Ok made → IsAccepted chain bytes evidence made
unfolding checked_of
accepted chain bytes evidence made fits e = read_takes chain bytes evidence made (message_at bytes) fits refl e

pub only : (chain : ChainHash) (bytes : List ℕ) (evidence : Evidence) (made : Checked)
    → IsAccepted chain bytes evidence made → checked_of chain bytes evidence ≡ Ok made
unfolding checked_of
only chain bytes evidence (checked.Channel row) is =
    rw (message_again bytes (messages.Announce row.message) is.spelled)
    (channel_again chain bytes evidence row is)
only chain bytes evidence (checked.Update row signer) is =
    rw (message_again bytes (messages.ChannelUpdate row.message) is.spelled)
    (update_again chain bytes evidence row signer is)
only chain bytes evidence (checked.Node row) is =
    rw (message_again bytes (messages.NodeAnnounce row.message) is.spelled) (node_again bytes evidence row is)

-- ---- what was returned

pub is_only : (asks : Type 0) (chain : ChainHash) (bytes : List ℕ) (evidence : Evidence) (r : Step) (made : Checked)
    → GivesIf asks refusals.NoMemory (λ made. made) r (checked_of chain bytes evidence) → IsAccepted chain bytes evidence made
    → MatchResult r (λ found. found ≡ made) (λ e. e ≡ refusals.NoMemory)
is_only asks chain bytes evidence (Ok found) made given is = ok_is found made (sym given ∙ only chain bytes evidence made is)
is_only asks chain bytes evidence (Err refusal) made given is =
    elim given [
      | inl none ↦ none.1
      | inr other ↦ let bad = sym other ∙ only chain bytes evidence made is in absurd cc
    ]

-- a row that was returned is to be accepted
pub is_accepted : {X : Type 0} (asks : Type 0) (chain : ChainHash) (bytes : List ℕ) (evidence : Evidence) (view : X → Checked) (r : Result X Refusal)
    → IsBytes bytes → GivesIf asks refusals.NoMemory view r (checked_of chain bytes evidence)
    → IfOk r (λ x. IsAccepted chain bytes evidence (view x))
is_accepted {X} asks chain bytes evidence view (Ok x) fits given = accepted chain bytes evidence (view x) fits given
is_accepted {X} asks chain bytes evidence view (Err refusal) fits given = tt
