-- How moments and marks follow the newest moment while the log goes on.
use Rattle.std.proofs.Common.{◌≡◌, ◌⊎◌, inl, inr, ℕ, ◌+◌, ◌-◌, ◌≤◌, List, [], ◌∷◌, ◌++◌, length, drop, sym, ap, subst, ◌∙◌, arith}
use Rattle.std.proofs.lemmas.List.{length_push, drop-append-le}
use Rattle.lgm_store.specs.declared.op.Op.{Op}
use Rattle.lgm_store.specs.Rows.{Rows}
use Rattle.lgm_store.specs.History.{fold_from}
use Rattle.lgm_store.proofs.Histories.{fold_from-push}
use Rattle.lgm_graph.specs.Network.{NetworkState}
use Rattle.lgm_timeline.specs.declared.edition.Edition.{Edition}
use Rattle.lgm_timeline.specs.History.{Moment, moment, next_position, Log, end, between, rows_at, LeadsFrom, Follows, IsTrimmed}
use Rattle.lgm_timeline.specs.Edition.{moment_of}
use Rattle.lgm_timeline.specs.inner.Past.{IsMarked, IsReached}
use Rattle.lgm_timeline.proofs.Logs.{between_none, between_all, between_push, trim_end, between_trim}

-- a log goes on by these operations: where it leads from, it led from before, to the same rows and then by these
pub record GoesOn (old new : Log) (more : List Op) : Type 0 where
  pub ends : end old ≤ end new
  pub leads : (at : ℕ) → at ≤ end old → LeadsFrom new at → LeadsFrom old at
  pub same : (at position : ℕ) → at ≤ end old → position ≤ end old → LeadsFrom new at → between new at position ≡ between old at position
  pub further : (at : ℕ) (rows : Rows) → at ≤ end old → LeadsFrom new at
      → fold_from rows (between new at (end new)) ≡ fold_from (fold_from rows (between old at (end old))) more

-- with one more operation
pub push_goes : (old new : Log) (op : Op) → new.base ≡ old.base → new.ops ≡ old.ops ++ op ∷ [] → GoesOn old new (op ∷ [])
push_goes old new op base ops =
    let long : length new.ops ≡ length old.ops + 1 = ap length ops ∙ length_push old.ops op in
    let kept : (at : ℕ) → LeadsFrom new at → old.base ≤ at = λ at leads. subst (λ (b : ℕ). b ≤ at) base leads.0 in
    record {
      ends = omega arith;
      leads = λ at within leads. (kept at leads, leads.1);
      same = λ at position within before leads. between_push old new op at position base ops (kept at leads) within before;
      further = λ at rows within leads.
          let n = at - old.base in
          let first = kept at leads in
          let inside : n ≤ length old.ops = omega arith in
          ap (fold_from rows) (between_all new at leads.0
          ∙ ap (λ (b : ℕ). drop (at - b) new.ops) base ∙ ap (drop n) ops ∙ drop-append-le n old.ops (op ∷ []) inside)
          ∙ fold_from-push rows (drop n old.ops) op
          ∙ ap (λ (items : List Op). fold_from (fold_from rows items) (op ∷ [])) (sym (between_all old at first));
    }

-- with an operation that was counted and not kept: it leads from nowhere
pub skip_goes : (old new : Log) (more : List Op) → new.base ≡ next_position (end old) → new.ops ≡ [] → end old ≤ new.base → GoesOn old new more
skip_goes old new more base ops few =
    let none : length new.ops ≡ 0 = ap length ops in
    let nowhere : (at : ℕ) → at ≤ end old → LeadsFrom new at → ⊥ = λ at within leads. omega (arith, leads.0, leads.1) in
    record {
      ends = omega arith;
      leads = λ at within leads. absurd (nowhere at within leads);
      same = λ at position within before leads. absurd (nowhere at within leads);
      further = λ at rows within leads. absurd (nowhere at within leads);
    }

-- without its first operations
pub trim_goes : (old new : Log) → IsTrimmed old new → GoesOn old new []
trim_goes old new trimmed =
    let from = trimmed.from in
    let ends = trim_end old new trimmed in
    record {
      ends = omega arith;
      leads = λ at within leads. (omega (arith, leads.0), leads.1);
      same = λ at position within before leads. between_trim old new at position trimmed leads.0;
      further = λ at rows within leads.
          ap (λ position. fold_from rows (between new at position)) ends ∙ ap (fold_from rows) (between_trim old new at (end old) trimmed leads.0);
    }

-- a network after these operations
pub record IsNext (network next : NetworkState) (more : List Op) : Type 0 where
  pub known : next.known ≡ network.known
  pub rows : next.rows ≡ fold_from network.rows more

pub follows_on : (old new : Log) (more : List Op) (network next : NetworkState) (now : Moment) → GoesOn old new more → IsNext network next more
    → Follows old (moment network (end old)) now → Follows new (moment next (end new)) now
follows_on old new more network next now goes is follows =
    let ends = goes.ends in
    let within = follows.within in
    record {
      known = follows.known ∙ sym is.known;
      within = omega arith;
      leads = λ leads. goes.further now.at now.rows within leads
          ∙ ap (λ (rows : Rows). fold_from rows more) (follows.leads (goes.leads now.at within leads)) ∙ sym is.rows;
    }

-- the log still leads from a mark's network, unless it has come to the mark
abbrev pub Lasts : Log → Log → ℕ → Edition → Type 0
Lasts old new position mark = LeadsFrom old mark.at → LeadsFrom new mark.at ⊎ IsReached position mark

-- a mark goes on, with the same rows
pub record MarkGoesOn (newest : Moment) (old new : Log) (position : ℕ) (mark : Edition) : Type 0 where
  pub is_marked : IsMarked new newest position mark
  pub same : rows_at new (moment_of mark) position ≡ rows_at old (moment_of mark) position

pub mark_on : (old new : Log) (more : List Op) (network next : NetworkState) (position : ℕ) (mark : Edition) → GoesOn old new more
    → IsNext network next more → Lasts old new position mark → IsMarked old (moment network (end old)) position mark
    → MarkGoesOn (moment next (end new)) old new position mark
mark_on old new more network next position mark goes is lasts is_marked =
    let ends = goes.ends in
    let before = is_marked.before in
    let within = is_marked.within in
    let rows_are : Log → Rows = λ log. rows_at log (moment_of mark) position in
    let due : LeadsFrom new mark.at ⊎ IsReached position mark =
    elim is_marked.due [ inl leads ↦ lasts leads | inr reached ↦ inr reached ] in
    record {
      is_marked = record {
        follows = follows_on old new more network next (moment_of mark) goes is is_marked.follows;
        before = before;
        within = omega arith;
        due = due;
      };
      same = elim due [
        | inl leads ↦ ap (fold_from mark.network.rows) (goes.same mark.at position (omega arith) within leads)
        | inr reached ↦ let none = λ (log : Log). ap (fold_from mark.network.rows) (between_none log mark.at position reached) in
            none new ∙ sym (none old)
      ];
    }
