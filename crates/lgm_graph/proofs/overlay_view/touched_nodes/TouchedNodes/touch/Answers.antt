use Rattle.std.proofs.Common.{◌≡◌, ◌∙◌, ◌^◌, rules, ◌<◌, ◌+◌, ◌-◌, ℕ, zero, suc, length, set, refl, sym, ap, subst, arith}
use Rattle.lgm_graph.specs.inner.Overlaying.{Touched, IsTouchedMore, nothing_of}
use Rattle.lgm_graph.specs.Places.{place_of}
use Rattle.lgm_graph.proofs.PlaceLaws.{place_within, few_nodes}
use Rattle.lgm_graph.proofs.TouchedNodeLaws.{touched_placed, touched_more}
use Rattle.lgm_graph.proofs.overlay_view.touched_nodes.TouchedNodes.touch.Goals as goal

-- the node has no place so far
new_in : (now old : Touched) (number place : ℕ) → now ≡ old → place ≡ place_of old number → place ≡ 0 → place_of now number ≡ 0
new_in now old number place same is none = ap (λ (t : Touched). place_of t number) same ∙ sym is ∙ none

within_in : (now old : Touched) (number : ℕ) → now ≡ old → number < length old.places → number < length now.places
within_in now old number same lt = subst (λ (t : Touched). number < length t.places) (sym same) lt

few : (c : goal.In_ok-push) → c.len-index.result + 1 < 2 ^ 32
few c =
    let now : Touched = record { places = c.self.inside.places.items; nodes = c.self.inside.nodes.items } in
    let fits = few_nodes now c.self.invariant (nothing_of c.args.number) (within_in now c.args.self.now c.args.number c.self.view_is c.requires)
    (new_in now c.args.self.now c.args.number c.place-place.result c.self.view_is c.place-place.ensures c.if-place-ne0.false) in
    let index : c.len-index.result ≡ length now.nodes = search rules in
    omega (arith, fits, index)

pub returns-then-place-ne0-clause-within : goal.returns-then-place-ne0-clause-within
returns-then-place-ne0-clause-within c = by c.place-place.result refl
  where
    by : (place : ℕ) → c.place-place.result ≡ place → c.place-place.result - 1 < length c.args.self.now.nodes
    by zero is = absurd (c.if-place-ne0.true is)
    by (suc k) is =
        let now : Touched = record { places = c.self.inside.places.items; nodes = c.self.inside.nodes.items } in
        let there : place_of now c.args.number ≡ suc k = ap (λ (t : Touched). place_of t c.args.number) c.self.view_is ∙ sym c.place-place.ensures ∙ is in
        let lt = place_within now c.self.invariant c.args.number k there in
        subst (λ (t : Touched). c.place-place.result - 1 < length t.nodes) c.self.view_is (omega (arith, is, lt))

pub overflow_cast-index : goal.overflow_cast-index
overflow_cast-index c = let fits = few c in search rules

pub overflow_add-index : goal.overflow_add-index
overflow_add-index c = let fits = few c in search rules

pub invariant_of-self-2 : goal.invariant_of-self-2
invariant_of-self-2 c =
    let now : Touched = record { places = c.self.inside.places.items; nodes = c.self.inside.nodes.items } in
    let within = within_in now c.args.self.now c.args.number c.self.view_is c.requires in
    let new = new_in now c.args.self.now c.args.number c.place-place.result c.self.view_is c.place-place.ensures c.if-place-ne0.false in
    let index : c.len-index.result + 1 ≡ suc (length now.nodes) = search rules in
    rw (c.in_ok-push.ensures.items, c.new.ensures, index) (touched_placed now c.self.invariant c.args.number within new)

pub returns-clause-more : goal.returns-clause-more
returns-clause-more c =
    let now : Touched = record { places = c.self.inside.places.items; nodes = c.self.inside.nodes.items } in
    let within = within_in now c.args.self.now c.args.number c.self.view_is c.requires in
    let new = new_in now c.args.self.now c.args.number c.place-place.result c.self.view_is c.place-place.ensures c.if-place-ne0.false in
    let index : c.len-index.result + 1 ≡ suc (length now.nodes) = search rules in
    subst (λ (old : Touched). IsTouchedMore old (record { places = set c.self.inside.places.items c.args.number (c.len-index.result + 1); nodes = c.push.new.self.items }))
    c.self.view_is
    (rw (c.in_ok-push.ensures.items, c.new.ensures, index) (touched_more now c.self.invariant c.args.number within new))
