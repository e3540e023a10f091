-- The nodes that a forward search reached, by number.
use Rattle.std.proofs.Common.{◌≡◌, ◌≢◌, ◌⊎◌, inl, inr, ◌∙◌, ℕ, zero, suc, ◌-◌, ◌<◌, ◌≤◌, ltb, Bool, true, false, List, [], ◌∷◌, length}
use Rattle.std.proofs.Common.{get_or, map, refl, sym, ap, arith, true≢false}
use Rattle.std.specs.Prelude.{eqb}
use Rattle.std.proofs.lemmas.Bool.{eqb-true, eq-eqb, cases_Bool, ltb-true, ltb-false}
use Rattle.std.proofs.lemmas.List.{length-map, get_or-map}
use Rattle.lgm_graph.specs.Places.{at_place}
use Rattle.lgm_route.specs.inner.Bounding.{IsLowered, IsShut, is_closed}
use Rattle.lgm_route.specs.inner.Reaching.{Table, found, fees_by, closed_by, fees_in, closed_in}
use Rattle.lgm_route.specs.inner.Searching.{number_at}

-- ---- what the lists say of a node

past : {X : Type 0} (xs : List X) (n : ℕ) (d : X) → length xs ≤ n → get_or xs n d ≡ d
past [] n d le = refl
past (x ∷ xs) zero d le = absurd (omega (arith, le))
past (x ∷ xs) (suc n) d le = past xs n d (omega (arith, le))

module _ (t : Table) where
  pub length_fees : length (fees_in t) ≡ length t.places
  length_fees = length-map t.places (λ place. fees_by (at_place t.nodes place))

  pub fees_at : (node : ℕ) → node < length t.places → number_at (fees_in t) node ≡ fees_by (found t node)
  fees_at node within = get_or-map (λ place. fees_by (at_place t.nodes place)) t.places node 0 0 within

  pub fees_past : (node : ℕ) → length t.places ≤ node → number_at (fees_in t) node ≡ 0
  fees_past node beyond = past (fees_in t) node 0 (omega (arith, length_fees, beyond))

  pub closed_at : (node : ℕ) → is_closed (closed_in t) node ≡ closed_by (found t node)
  closed_at node = by t.places node
    where
      by : (places : List ℕ) (n : ℕ) → get_or (map (λ place. closed_by (at_place t.nodes place)) places) n false
          ≡ closed_by (at_place t.nodes (get_or places n 0))
      by [] n = refl
      by (place ∷ places) zero = refl
      by (place ∷ places) (suc n) = by places n

-- no place is used
module _ (places : List ℕ) (none : (n : ℕ) → get_or places n 0 ≡ 0) where
  abbrev pub empty_table : Table
  empty_table = record { places = places; nodes = [] }

  pub none_closed : (node : ℕ) → is_closed (closed_in empty_table) node ≡ false
  none_closed node = closed_at empty_table node ∙ ap (λ place. closed_by (at_place empty_table.nodes place)) (none node)

-- ---- what changes

-- of the other nodes the same is known
module _ (t after : Table) (node : ℕ) (long : length after.places ≡ length t.places)
    (others : (other : ℕ) → other ≢ node → found after other ≡ found t other) where
  pub fees_same : (other : ℕ) → other ≢ node → number_at (fees_in after) other ≡ number_at (fees_in t) other
  fees_same other apart = by (ltb other (length t.places)) refl
    where
      by : (b : Bool) → ltb other (length t.places) ≡ b → number_at (fees_in after) other ≡ number_at (fees_in t) other
      by true e =
          let within = ltb-true other (length t.places) e in
          fees_at after other (omega (arith, long, within)) ∙ ap fees_by (others other apart) ∙ sym (fees_at t other within)
      by false e =
          let beyond = ltb-false other (length t.places) e in
          fees_past after other (omega (arith, long, beyond)) ∙ sym (fees_past t other beyond)

  pub closed_same : (other : ℕ) → other ≢ node → is_closed (closed_in after) other ≡ is_closed (closed_in t) other
  closed_same other apart = closed_at after other ∙ ap closed_by (others other apart) ∙ sym (closed_at t other)

  apart_by : (other : ℕ) → (eqb other node ≡ true) ⊎ (eqb other node ≡ false) → (other ≡ node) ⊎ (other ≢ node)
  apart_by other (inl e) = inl (eqb-true other node e)
  apart_by other (inr e) = inr (λ same. (let h : true ≡ false = sym (eq-eqb other node same) ∙ e in true≢false h))

  same_or : (other : ℕ) → (other ≡ node) ⊎ (other ≢ node)
  same_or other = apart_by other (cases_Bool (eqb other node))

  -- the fees to one node are lowered, which is open then
  module _ (amount : ℕ) (within : node < length t.places) (fees : fees_by (found after node) ≡ amount)
      (open_now : closed_by (found after node) ≡ false) (less : amount < number_at (fees_in t) node) where
    fees_here : number_at (fees_in after) node ≡ amount
    fees_here = fees_at after node (omega (arith, within, long)) ∙ fees

    pub lowered_at : IsLowered (fees_in t) (closed_in t) node amount (fees_in after) (closed_in after)
    lowered_at = record {
      near = omega (arith, fees_here);
      falls = λ other. falls other (same_or other);
      others = λ other. rest other (same_or other);
      least = λ other. least other (same_or other);
      still = λ other shut. still other shut (same_or other);
    }
      where
        falls : (other : ℕ) → (other ≡ node) ⊎ (other ≢ node) → number_at (fees_in after) other ≤ number_at (fees_in t) other
        falls other (inl own) = rw own (omega (arith, fees_here, less))
        falls other (inr apart) = omega (arith, fees_same other apart)

        rest : (other : ℕ) → (other ≡ node) ⊎ (other ≢ node)
            → (other ≡ node) ⊎ (number_at (fees_in after) other ≡ number_at (fees_in t) other)
        rest other (inl own) = inl own
        rest other (inr apart) = inr (fees_same other apart)

        least : (other : ℕ) → (other ≡ node) ⊎ (other ≢ node)
            → (number_at (fees_in after) other ≡ number_at (fees_in t) other) ⊎ (amount ≤ number_at (fees_in after) other)
        least other (inl own) = inr (rw own (omega (arith, fees_here)))
        least other (inr apart) = inl (fees_same other apart)

        still : (other : ℕ) → is_closed (closed_in after) other ≡ true → (other ≡ node) ⊎ (other ≢ node)
            → (is_closed (closed_in t) other ≡ true) × (number_at (fees_in after) other ≡ number_at (fees_in t) other)
        still other shut (inl own) =
            let h : true ≡ false = sym shut ∙ ap (is_closed (closed_in after)) own ∙ closed_at after node ∙ open_now in
            absurd (true≢false h)
        still other shut (inr apart) = (sym (closed_same other apart) ∙ shut, fees_same other apart)

  -- one node is closed
  pub shut_at : fees_by (found after node) ≡ fees_by (found t node)
      → IsShut (fees_in t) (closed_in t) node (fees_in after) (closed_in after)
  shut_at fees = record {
    same = λ other. same other (same_or other);
    still = λ other shut. still other shut (same_or other);
  }
    where
      here : (b : Bool) → ltb node (length t.places) ≡ b → number_at (fees_in after) node ≡ number_at (fees_in t) node
      here true e =
          let within = ltb-true node (length t.places) e in
          fees_at after node (omega (arith, long, within)) ∙ fees ∙ sym (fees_at t node within)
      here false e =
          let beyond = ltb-false node (length t.places) e in
          fees_past after node (omega (arith, long, beyond)) ∙ sym (fees_past t node beyond)

      same : (other : ℕ) → (other ≡ node) ⊎ (other ≢ node) → number_at (fees_in after) other ≡ number_at (fees_in t) other
      same other (inl own) = rw own (here (ltb node (length t.places)) refl)
      same other (inr apart) = fees_same other apart

      still : (other : ℕ) → is_closed (closed_in after) other ≡ true → (other ≡ node) ⊎ (other ≢ node)
          → (is_closed (closed_in t) other ≡ true) ⊎ (other ≡ node)
      still other shut (inl own) = inr own
      still other shut (inr apart) = inl (sym (closed_same other apart) ∙ shut)

-- nothing changes
pub not_lowered : (dist : List ℕ) (closed : List Bool) (node amount : ℕ) → number_at dist node ≤ amount
    → IsLowered dist closed node amount dist closed
not_lowered dist closed node amount low = record {
  near = low;
  falls = λ other. omega arith;
  others = λ other. inr refl;
  least = λ other. inl refl;
  still = λ other shut. (shut, refl);
}

pub not_shut : (dist : List ℕ) (closed : List Bool) (node : ℕ) → IsShut dist closed node dist closed
not_shut dist closed node = record { same = λ other. refl; still = λ other shut. inl shut }
