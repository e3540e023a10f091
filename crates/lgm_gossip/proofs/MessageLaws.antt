-- The laws of messages: reading returns a value if and only if the bytes encode it.
use Rattle.std.proofs.Common.{◌≡◌, ℕ, ◌+◌, ◌*◌, ◌/◌, ◌%◌, ◌<◌, ◌≤◌, false, cond, eqb, ltb, List, [], ◌∷◌, ◌++◌}
use Rattle.std.proofs.Common.{length, drop, None, Result, Ok, Err, refl, ap, sym, subst, ◌∙◌, arith, inl, inr}
use Rattle.std.specs.Prelude.{IfOk, MatchResult}
use Rattle.std.specs.Int.{w16, to_be_bytes}
use Rattle.std.specs.Result.{result_err}
use Rattle.std.proofs.lemmas.Bool.{eqb-true, ltb-false, le-ltb}
use Rattle.lgm_wire.specs.reading.Reading.{◌>>=◌, Gives}
use Rattle.lgm_gossip.specs.declared.fault.DecodeFault.{DecodeFault}
use Rattle.lgm_gossip.specs.declared.fault.DecodeFault.TheVariants.{Long, UnknownEven, UnknownOdd, NoMemory}
use Rattle.lgm_gossip.specs.declared.message.Message.{Message}
use Rattle.lgm_gossip.specs.declared.message.Message.TheVariants as messages
use Rattle.lgm_gossip.specs.Fields.{Field}
use Rattle.lgm_gossip.specs.Message.{Wire, Spells}
use Rattle.lgm_gossip.specs.reading.MessageReading.{fault, body_at, kind_at, typed_at, message_at}
use Rattle.lgm_gossip.proofs.WireLaws.{chosen, bind_ok, ok_is, IsBytes, IsBytes-drop}
use Rattle.lgm_gossip.proofs.FieldLaws.{IsText}
use Rattle.lgm_gossip.proofs.AnnounceLaws.{announce_text}
use Rattle.lgm_gossip.proofs.NodeAnnounceLaws.{node_announce_text}
use Rattle.lgm_gossip.proofs.ChannelUpdateLaws.{channel_update_text}
use Rattle.lgm_gossip.proofs.IdsQueryLaws.{ids_query_text}
use Rattle.lgm_gossip.proofs.IdsEndLaws.{ids_end_text}
use Rattle.lgm_gossip.proofs.RangeQueryLaws.{range_query_text}
use Rattle.lgm_gossip.proofs.RangeReplyLaws.{range_reply_text}
use Rattle.lgm_gossip.proofs.FilterMsgLaws.{filter_msg_text}

-- the bytes of a message
record IsTyped (high low : ℕ) (body : List ℕ) : Type 0 where
  fits : IsBytes (high ∷ low ∷ body)
  short : length (high ∷ low ∷ body) ≤ 65535

-- the bytes after the type as one value
after_type : {M : Type 0} {at : List ℕ → Result M DecodeFault} {F : M → List ℕ → Type 0} → IsText at F
    → IsText (λ raw. at (drop 2 raw)) (λ m raw. F m (drop 2 raw))
after_type {M} {at} {F} law = record {
  takes = λ raw m fits e. law.takes (drop 2 raw) m (IsBytes-drop 2 raw fits) e;
  again = λ m raw text. law.again m (drop 2 raw) text;
}

-- the two bytes of a type
kind_bytes : (kind high low : ℕ) → low < 256 → high * 256 + low ≡ kind → kind < 512 → to_be_bytes w16 kind ≡ high ∷ low ∷ []
kind_bytes kind high low lt e below =
    let first : kind / 256 % 256 ≡ high = omega arith in
    let second : kind % 256 ≡ low = omega arith in
    let bytes : kind / 256 % 256 ∷ kind % 256 ∷ [] ≡ high ∷ low ∷ [] = cc in
    bytes

-- one line of `kind_at`: the bytes were read as its message, or by the lines below
line : {M : Type 0} {at : List ℕ → Result M DecodeFault} {F : M → Field} (law : IsText at (λ x raw. (F x).Is (drop 2 raw)))
    (variant : M → Message) (kind high low : ℕ) (body : List ℕ) (m : Message)
    (others : Result Message DecodeFault)
    → kind < 512 → ((x : M) → Spells kind (F x) (high ∷ low ∷ body) → Wire (variant x) (high ∷ low ∷ body)) → IsTyped high low body
    → cond (eqb (high * 256 + low) kind) (at (high ∷ low ∷ body) >>= λ x. Ok (variant x)) others ≡ Ok m
    → (others ≡ Ok m → Wire m (high ∷ low ∷ body)) → Wire m (high ∷ low ∷ body)
line {M} {at} {F} law variant kind high low body m others below wire typed e later =
    elim (chosen (eqb (high * 256 + low) kind) (at (high ∷ low ∷ body) >>= λ x. Ok (variant x)) others (Ok m) e) [
      | inl is ↦
          let a = bind_ok (at (high ∷ low ∷ body)) (λ x. Ok (variant x)) m is.1 in
          let bytes = kind_bytes kind high low (typed.fits 1) (eqb-true (high * 256 + low) kind is.0) below in
          subst (λ (x : Message). Wire x (high ∷ low ∷ body)) (ok_is (variant a.0) m a.2) (wire a.0 (record {
            body = body;
            whole = ap (λ (s : List ℕ). s ++ body) (sym bytes);
            fields = law.takes (high ∷ low ∷ body) a.0 typed.fits a.1;
            len = typed.short;
          }))
      | inr other ↦ later other.1
    ]

-- the last line
unknown_line : (kind : ℕ) (m : Message) → cond (eqb (kind % 2) 0) (Err (UnknownEven kind)) (Err (UnknownOdd kind)) ≡ Ok m → ⊥
unknown_line kind m e =
    elim (chosen (eqb (kind % 2) 0) (Err (UnknownEven kind)) (Err (UnknownOdd kind)) (Ok m) e) [
      | inl bad ↦ absurd cc
      | inr bad ↦ absurd cc
    ]

kind_takes : (high low : ℕ) (body : List ℕ) (m : Message) → IsTyped high low body
    → kind_at (high * 256 + low) (high ∷ low ∷ body) ≡ Ok m → Wire m (high ∷ low ∷ body)
unfolding kind_at body_at
kind_takes high low body m typed e =
    line announce_text (λ x. messages.Announce x) 256 high low body m _ (omega arith) (λ x s. s) typed e (λ e.
    line node_announce_text (λ x. messages.NodeAnnounce x) 257 high low body m _ (omega arith) (λ x s. s) typed e (λ e.
    line channel_update_text (λ x. messages.ChannelUpdate x) 258 high low body m _ (omega arith) (λ x s. s) typed e (λ e.
    line (after_type ids_query_text) (λ x. messages.IdsQuery x) 261 high low body m _ (omega arith) (λ x s. s) typed e (λ e.
    line (after_type ids_end_text) (λ x. messages.IdsEnd x) 262 high low body m _ (omega arith) (λ x s. s) typed e (λ e.
    line (after_type range_query_text) (λ x. messages.RangeQuery x) 263 high low body m _ (omega arith) (λ x s. s) typed e (λ e.
    line (after_type range_reply_text) (λ x. messages.RangeReply x) 264 high low body m _ (omega arith) (λ x s. s) typed e (λ e.
    line (after_type filter_msg_text) (λ x. messages.FilterMsg x) 265 high low body m _ (omega arith) (λ x s. s) typed e (λ e.
    absurd (unknown_line (high * 256 + low) m e)))))))))

pub message_takes : (bytes : List ℕ) (m : Message) → IsBytes bytes → message_at bytes ≡ Ok m → Wire m bytes
unfolding message_at
message_takes bytes m fits e =
    elim (chosen (ltb 65535 (length bytes)) (Err Long) (typed_at bytes) (Ok m) e) [
      | inl bad ↦ absurd cc
      | inr good ↦ typed bytes fits (ltb-false _ _ good.0) good.1
    ]
  where
    typed : (b : List ℕ) → IsBytes b → length b ≤ 65535 → typed_at b ≡ Ok m → Wire m b
    typed [] b_fits short read = absurd cc
    typed (high ∷ []) b_fits short read = absurd cc
    typed (high ∷ low ∷ body) b_fits short read =
        kind_takes high low body m (record {
          fits = b_fits;
          short = short;
        }) read

-- a message whose type and fields are read back
typed_again : {F : Field} (kind : ℕ) (bytes : List ℕ) (s : Spells kind F bytes) (m : Message)
    → typed_at (to_be_bytes w16 kind ++ s.body) ≡ Ok m → message_at bytes ≡ Ok m
unfolding message_at
typed_again kind bytes s m e =
    let short : ltb 65535 (length bytes) ≡ false = le-ltb _ _ s.len in
    rw short (ap typed_at s.whole ∙ e)

pub message_again : (bytes : List ℕ) (m : Message) → Wire m bytes → message_at bytes ≡ Ok m
unfolding kind_at body_at
message_again bytes (messages.Announce m) s = typed_again 256 bytes s _ (rw (announce_text.again m (to_be_bytes w16 256 ++ s.body) s.fields) refl)
message_again bytes (messages.NodeAnnounce m) s = typed_again 257 bytes s _ (rw (node_announce_text.again m (to_be_bytes w16 257 ++ s.body) s.fields) refl)
message_again bytes (messages.ChannelUpdate m) s = typed_again 258 bytes s _ (rw (channel_update_text.again m (to_be_bytes w16 258 ++ s.body) s.fields) refl)
message_again bytes (messages.IdsQuery m) s = typed_again 261 bytes s _ (rw (ids_query_text.again m s.body s.fields) refl)
message_again bytes (messages.IdsEnd m) s = typed_again 262 bytes s _ (rw (ids_end_text.again m s.body s.fields) refl)
message_again bytes (messages.RangeQuery m) s = typed_again 263 bytes s _ (rw (range_query_text.again m s.body s.fields) refl)
message_again bytes (messages.RangeReply m) s = typed_again 264 bytes s _ (rw (range_reply_text.again m s.body s.fields) refl)
message_again bytes (messages.FilterMsg m) s = typed_again 265 bytes s _ (rw (filter_msg_text.again m s.body s.fields) refl)

pub is_found : (bytes : List ℕ) (r : Result Message DecodeFault) → IsBytes bytes
    → Gives NoMemory (λ m. m) r (message_at bytes) → IfOk r (λ m. Wire m bytes)
is_found bytes (Ok m) fits given = message_takes bytes m fits given
is_found bytes (Err e) fits given = tt

pub is_only : (bytes : List ℕ) (r : Result Message DecodeFault) (m : Message) → Gives NoMemory (λ m. m) r
    (message_at bytes) → Wire m bytes → MatchResult r (λ found. found ≡ m) (λ e. e ≡ NoMemory)
is_only bytes (Ok x) m given wire = ok_is x m (sym given ∙ message_again bytes m wire)
is_only bytes (Err e) m given wire =
    elim given [
      | inl none ↦ none
      | inr fault ↦ let bad = sym fault ∙ message_again bytes m wire in absurd cc
    ]

none_ok : (r : Result Message DecodeFault) → result_err r ≡ None → (m : Message) × (r ≡ Ok m)
none_ok (Ok m) e = (m, refl)
none_ok (Err f) e = absurd cc

pub once : (m n : Message) (b : List ℕ) → Wire m b → Wire n b → m ≡ n
once m n b p q = ok_is m n (sym (message_again b m p) ∙ message_again b n q)

pub spelled : (b : List ℕ) → IsBytes b → fault b ≡ None → (m : Message) × Wire m b
spelled b fits e =
    let r = none_ok (message_at b) e in
    (r.0, message_takes b r.0 fits r.1)

pub faultless : (m : Message) (b : List ℕ) → Wire m b → fault b ≡ None
faultless m b wire = ap result_err (message_again b m wire)
