-- How what is kept of the past goes on.
use Rattle.std.proofs.Common.{◌≡◌, inl, inr, ℕ, ◌≤◌, false, List, [], Option, Some, None, Result, Ok, Err, refl, sym, ap, subst, ◌∙◌, arith}
use Rattle.std.specs.Prelude.{IfSome, IfNone, IsSome, IsSomeAnd, is_some}
use Rattle.std.specs.Option.{unwrap_or}
use Rattle.std.specs.Arc.{arc_value}
use Rattle.std.specs.declared.sync.Arc.{Arc}
use Rattle.std.specs.declared.alloc.Global.{Global}
use Rattle.std.proofs.lemmas.Option.{IfSome_then}
use Rattle.lgm_check.specs.declared.refusal.Refusal.{Refusal}
use Rattle.lgm_store.specs.Admission.{Offers}
use Rattle.lgm_store.specs.declared.op.Op.{Op}
use Rattle.lgm_store.specs.History.{fold_from}
use Rattle.lgm_graph.specs.Network.{NetworkState}
use Rattle.lgm_timeline.specs.declared.edition.Edition.{Edition}
use Rattle.lgm_timeline.specs.declared.past.Past.{Past}
use Rattle.lgm_timeline.specs.History.{Moment, moment, Log, end, LeadsFrom, Follows, IsTrimmed}
use Rattle.lgm_timeline.specs.Edition.{moment_of, IsReadyAt}
use Rattle.lgm_timeline.specs.inner.Past.{IsMarked, IsReached, IsAtLeast, IsShared, IsPast, StaysPast, GoesOnPast, rows_marked_by}
use Rattle.lgm_timeline.proofs.Logs.{trim_end, between_none}
use Rattle.lgm_timeline.proofs.Followings.{GoesOn, IsNext, Lasts, follows_on, mark_on, trim_goes}

-- where the newest network is the one at the mark, it stays so
abbrev pub IsStill : Log → Log → NetworkState → NetworkState → Option Edition → Type 0
IsStill old new network next mark = IfNone mark ((end new ≡ end old) × (next.rows ≡ network.rows))

-- as in a log that ends where it did
still_same : (old new : Log) (network : NetworkState) (mark : Option Edition) → end new ≡ end old → IsStill old new network network mark
still_same old new network None same = (same, refl)
still_same old new network (Some mark) same = tt

-- or if the mark has a network of its own
pub still_own : (old new : Log) (network next : NetworkState) (mark : Option Edition) → IsSome mark → IsStill old new network next mark
still_own old new network next None own = absurd cc
still_own old new network next (Some mark) own = tt

-- the rows at the mark stay
marked_on : (old new : Log) (more : List Op) (network next : NetworkState) (position : ℕ) (mark : Option Edition) → GoesOn old new more
    → IsNext network next more → IsStill old new network next mark → IfSome mark (Lasts old new position)
    → IfSome mark (IsMarked old (moment network (end old)) position) → IfNone mark (position ≡ end old)
    → IfSome mark (IsMarked new (moment next (end new)) position) × IfNone mark (position ≡ end new)
    × (rows_marked_by next new position mark ≡ rows_marked_by network old position mark)
marked_on old new more network next position None goes is still lasts is_marked at_newest = (tt, at_newest ∙ sym still.0, still.1)
marked_on old new more network next position (Some mark) goes is still lasts is_marked at_newest =
    let on = mark_on old new more network next position mark goes is lasts is_marked in (on.is_marked, tt, on.same)

pub past_on : (network next : NetworkState) (old : Past) (new : Log) (more : List Op) → GoesOn old.log new more → IsNext network next more
    → IsStill old.log new network next old.mark → IfSome old.mark (Lasts old.log new old.marked) → IsPast network old
    → GoesOnPast network next old (record old { log = new })
past_on network next old new more goes is still lasts past =
    let mark = marked_on old.log new more network next old.marked old.mark goes is still lasts past.mark past.at_newest in
    let on = λ (shared : Arc Edition Global) (was : IsShared old.log (moment network (end old.log)) (arc_value shared)).
    let edition = arc_value shared in
    let now : IsShared new (moment next (end new)) edition =
    record { follows = follows_on old.log new more network next (moment_of edition) goes is was.follows; ready = was.ready } in now in
    record {
      past = record { mark = mark.0; at_newest = mark.1; latest = IfSome_then old.latest past.latest on; older = IfSome_then old.older past.older on };
      marked = mark.2;
    }

pub past_trim : (network : NetworkState) (old : Past) (new : Log) → IsTrimmed old.log new → IfSome old.mark (Lasts old.log new old.marked)
    → IsPast network old → StaysPast network old (record old { log = new })
past_trim network old new trimmed lasts past =
    let same = trim_end old.log new trimmed in
    let on = past_on network network old new [] (trim_goes old.log new trimmed) (record { known = refl; rows = refl })
    (still_same old.log new network old.mark same) lasts past in
    record { past = on.past; marked = on.marked; at_end = same }

-- the past of a network stays that, step by step
pub stays_then : (network : NetworkState) (first second third : Past) → StaysPast network first second → StaysPast network second third
    → StaysPast network first third
stays_then network first second third then further =
    record { past = further.past; marked = further.marked ∙ then.marked; at_end = further.at_end ∙ then.at_end }

-- a network that is shared and has come to the newest one follows it
newest_shared : (log : Log) (newest : Moment) (edition : Edition) → IsReadyAt newest edition → IsShared log newest edition
newest_shared log newest edition at =
    let here : Follows log newest newest =
    record { known = refl; within = omega arith; leads = λ leads. ap (fold_from newest.rows) (between_none log newest.at newest.at refl) } in
    record { follows = subst (λ (now : Moment). Follows log newest now) (sym at.is) here; ready = at.ready }

-- with another older edition, which is the newest network
pub older_stays : (network : NetworkState) (first past : Past) (found : Option (Arc Edition Global)) → StaysPast network first past
    → IfSome found (λ edition. IsReadyAt (moment network (end first.log)) (arc_value edition)) → StaysPast network first (record past { older = found })
older_stays network first past found stays newest =
    let here = subst (λ (position : ℕ). IfSome found (λ (edition : Arc Edition Global). IsReadyAt (moment network position) (arc_value edition))) (sym stays.at_end) newest in
    record {
      past = record {
        mark = stays.past.mark;
        at_newest = stays.past.at_newest;
        latest = stays.past.latest;
        older = IfSome_then found here
            (λ (edition : Arc Edition Global) (at : IsReadyAt (moment network (end past.log)) (arc_value edition)). newest_shared past.log (moment network (end past.log)) (arc_value edition) at);
      };
      marked = stays.marked;
      at_end = stays.at_end;
    }

-- with another latest edition, which is the newest network, before which the older one is the latest so far
pub latest_stays : (network : NetworkState) (first past : Past) (next : Arc Edition Global) → StaysPast network first past
    → IsReadyAt (moment network (end first.log)) (arc_value next) → StaysPast network first (record past { latest = Some next; older = past.latest })
latest_stays network first past next stays newest =
    let here = subst (λ (position : ℕ). IsReadyAt (moment network position) (arc_value next)) (sym stays.at_end) newest in
    record {
      past = record {
        mark = stays.past.mark;
        at_newest = stays.past.at_newest;
        older = stays.past.latest;
        latest = newest_shared past.log (moment network (end past.log)) (arc_value next) here;
      };
      marked = stays.marked;
      at_end = stays.at_end;
    }

-- a mark lasts in a log that begins where it did
pub kept_lasts : (old new : Log) (position : ℕ) (mark : Option Edition) → new.base ≡ old.base → IfSome mark (Lasts old new position)
kept_lasts old new position None base = tt
kept_lasts old new position (Some mark) base = λ leads. inl (subst (λ (b : ℕ). b ≤ mark.at) (sym base) leads.0, leads.1)

-- and so does one that is reached
pub reached_lasts : (old new : Log) (position : ℕ) (mark : Option Edition) → IfSome mark (IsReached position) → IfSome mark (Lasts old new position)
reached_lasts old new position mark reached =
    IfSome_then mark reached (λ (m : Edition) (r : IsReached position m). λ (leads : LeadsFrom old m.at). inr r)

-- a slower position is at a mark's network or before it, too
pub slower_yet : (log : Log) (first second : Option ℕ) (position : ℕ) (mark : Option Edition)
    → ((other : ℕ) → IsSomeAnd first (λ least. least ≤ other) → IsSomeAnd second (λ least. least ≤ other))
    → IfSome mark (IsAtLeast log first position) → IfSome mark (IsAtLeast log second position)
slower_yet log first second position None slower least = tt
slower_yet log first second position (Some mark) slower least =
    λ leads. elim (least leads) [ inl needed ↦ inl (slower mark.at needed) | inr reached ↦ inr reached ]

-- and so does one that needs nothing before the slowest, without what is before that
pub slowest_lasts : (old new : Log) (position : ℕ) (mark : Option Edition) (slowest : Option ℕ) (first last : ℕ) → first ≡ unwrap_or slowest last
    → ((kept : ℕ) → old.base ≤ kept → first ≤ kept → new.base ≤ kept) → IfSome mark (IsAtLeast old slowest position)
    → IfSome mark (Lasts old new position)
slowest_lasts old new position None slowest first last is until least = tt
slowest_lasts old new position (Some mark) None first last is until least =
    λ leads. elim (least leads) [ inl none ↦ absurd none | inr reached ↦ inr reached ]
slowest_lasts old new position (Some mark) (Some slow) first last is until least =
    λ leads. elim (least leads) [
      | inl within ↦ inl (until mark.at leads.0 (subst (λ (n : ℕ). n ≤ mark.at) (sym is) within), leads.1)
      | inr reached ↦ inr reached
    ]

-- a mark that doesn't need the next operation is reached
pub unneeded_reached : (log : Log) (newest : Moment) (position : ℕ) (mark : Option Edition) → IfSome mark (λ m. ¬ LeadsFrom log m.at)
    → IfSome mark (IsMarked log newest position) → IfSome mark (IsReached position)
unneeded_reached log newest position None unneeded is_marked = tt
unneeded_reached log newest position (Some mark) unneeded is_marked =
    elim is_marked.due [ inl leads ↦ absurd (unneeded leads) | inr reached ↦ reached ]

-- as where no follower needs it
pub idle_reached : (log : Log) (newest : Moment) (position : ℕ) (mark : Option Edition) (slowest : Option ℕ) → is_some slowest ≡ false
    → IfSome mark (IsAtLeast log slowest position) → IfSome mark (IsMarked log newest position) → IfSome mark (IsReached position)
idle_reached log newest position None slowest idle least is_marked = tt
idle_reached log newest position (Some mark) None idle least is_marked = elim is_marked.due [
  | inl leads ↦ elim (least leads) [ inl none ↦ absurd none | inr reached ↦ reached ]
  | inr reached ↦ reached
]
idle_reached log newest position (Some mark) (Some first) idle least is_marked = absurd cc

-- a network that accepted an operation had admitted it
pub offers_accepts : (op : Op) (admission : Result Op Refusal) → Offers (Ok op) admission → admission ≡ Ok op
offers_accepts op (Ok other) offers = elim offers [ inl same ↦ sym same | inr none ↦ absurd cc ]
offers_accepts op (Err refusal) offers = absurd cc
