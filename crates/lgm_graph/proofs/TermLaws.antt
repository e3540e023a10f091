-- The overrides of the edges with an id, once one thing more is.
use Rattle.std.proofs.Common.{◌≡◌, ℕ, ◌<◌, Bool, true, false, cond, List, [], ◌∷◌, Option, Some, None, refl, sym, ap, ◌∙◌, arith}
use Rattle.std.specs.Prelude.{eqb, min, unwrap_or}
use Rattle.std.specs.Map.{lookup}
use Rattle.std.specs.declared.cmp.Ordering.{Ordering}
use Rattle.std.specs.declared.cmp.Ordering.TheVariants.{Less, Equal, Greater}
use Rattle.std.specs.Ordering.{nat_cmp, match_ordering, is_eq}
use Rattle.std.specs.BTreeMap.{is_at, insert_entry}
use Rattle.std.proofs.lemmas.Bool.Decides.{nat_tests}
use Rattle.lgm_graph.specs.declared.overlay_view.edge_terms.EdgeTerms.{EdgeTerms}
use Rattle.lgm_graph.specs.inner.Overlaying.{Terms, terms_of, with_terms, least_of, no_terms}

-- a number is found where it is the same
found_at : (id key : ℕ) → is_eq (nat_cmp id key) ≡ eqb key id
found_at id key = grind (arith, nat_tests)

same_at : (id key : ℕ) → nat_cmp id key ≡ Equal → key ≡ id
same_at id key is = grind (arith, nat_tests)

apart_at : (id key : ℕ) → nat_cmp id key ≡ Greater → eqb key id ≡ false
apart_at id key is = grind (arith, nat_tests)

module _ (key : ℕ) (own : EdgeTerms) (id : ℕ) where
  -- the overrides of a key is found at it, and at the others what was
  looked_up : (terms : Terms) → lookup (is_at (nat_cmp id)) (with_terms terms key own)
      ≡ cond (eqb key id) (Some own) (lookup (is_at (nat_cmp id)) terms)
  looked_up [] = ap (λ b. cond b (Some own) None) (found_at id key)
  looked_up (e ∷ es) = by (looked_up es) (nat_cmp key e.0) refl
    where
      left : Option EdgeTerms
      left = lookup (is_at (nat_cmp id)) es

      by : lookup (is_at (nat_cmp id)) (with_terms es key own) ≡ cond (eqb key id) (Some own) left
          → (o : Ordering) → nat_cmp key e.0 ≡ o
          → lookup (is_at (nat_cmp id)) (match_ordering (nat_cmp key e.0) ((key, own) ∷ e ∷ es) ((e.0, own) ∷ es) (e ∷ with_terms es key own))
          ≡ cond (eqb key id) (Some own) (cond (is_eq (nat_cmp id e.0)) (Some e.1) left)
      by rest Less is = rw is (ap (λ b. cond b (Some own) (cond (is_eq (nat_cmp id e.0)) (Some e.1) left)) (found_at id key))
      by rest Equal is =
          let same : e.0 ≡ key = same_at key e.0 is in
          rw is (replaced (eqb key id) (found_at id e.0 ∙ ap (λ k. eqb k id) same))
        where
          replaced : (b : Bool) → is_eq (nat_cmp id e.0) ≡ b
              → cond (is_eq (nat_cmp id e.0)) (Some own) left ≡ cond b (Some own) (cond (is_eq (nat_cmp id e.0)) (Some e.1) left)
          replaced true here = rw here refl
          replaced false here = rw here refl
      by rest Greater is = rw is (behind (is_eq (nat_cmp id e.0)) refl)
        where
          behind : (b : Bool) → is_eq (nat_cmp id e.0) ≡ b
              → cond (is_eq (nat_cmp id e.0)) (Some e.1) (lookup (is_at (nat_cmp id)) (with_terms es key own))
              ≡ cond (eqb key id) (Some own) (cond (is_eq (nat_cmp id e.0)) (Some e.1) left)
          behind true here =
              let same : e.0 ≡ id = same_id in
              let other : eqb key id ≡ false = not_key in
              rw (here, other) refl
            where
              same_id : e.0 ≡ id
              same_id = grind (arith, nat_tests, here)

              not_key : eqb key id ≡ false
              not_key = grind (arith, nat_tests, same_id, is)
          behind false here = rw here rest

  -- so the overrides of an id changes where it is the key
  pub terms_are : (terms : Terms) → terms_of (with_terms terms key own) id ≡ cond (eqb key id) own (terms_of terms id)
  terms_are terms = ap (λ found. unwrap_or found no_terms) (looked_up terms) ∙ by (eqb key id)
    where
      by : (b : Bool) → unwrap_or (cond b (Some own) (lookup (is_at (nat_cmp id)) terms)) no_terms ≡ cond b own (terms_of terms id)
      by true = refl
      by false = refl

-- a limit more lowers an amount to it
pub least_lowered : (limit : Option ℕ) (most max : ℕ) → min max (least_of limit most) ≡ min (least_of limit max) most
least_lowered None most max = refl
least_lowered (Some before) most max = omega arith
