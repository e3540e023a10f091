-- Fields in order: reading returns a value if and only if the bytes encode it.
use Rattle.std.proofs.Common.{◌≡◌, ℕ, List, Result, Ok, sym, ap, subst, ◌∙◌}
use Rattle.lgm_gossip.specs.declared.fault.DecodeFault.{DecodeFault}
use Rattle.lgm_gossip.specs.Fields.{Joined}
use Rattle.lgm_gossip.specs.reading.FieldReading.{read_on, made}
use Rattle.lgm_gossip.proofs.WireLaws.{bind_ok, ok_is, IsBytes}
use Rattle.lgm_gossip.proofs.FieldLaws.{IsField, IsLast, IsText}

-- the last fields of a message, which are read after values that it has too
pub record Reads {X M : Type 0} (at : X → List ℕ → Result M DecodeFault) (known : M → X) (Fields : M → List ℕ → Type 0) : Type 0 where
  pub takes : (x : X) (bytes : List ℕ) (m : M) → IsBytes bytes → at x bytes ≡ Ok m → (known m ≡ x) × Fields m bytes
  pub again : (m : M) (bytes : List ℕ) → Fields m bytes → at (known m) bytes ≡ Ok m

-- one more field in front
pub then_reads : {X A M : Type 0} {p : List ℕ → Result (A × List ℕ) DecodeFault} {F : A → List ℕ → Type 0}
    {known : M → X} {G : M → List ℕ → Type 0} (others : X → A → List ℕ → Result M DecodeFault)
    → IsField p F → (get : M → A) → Reads (λ (y : X × A). others y.0 y.1) (λ m. (known m, get m)) G
    → Reads (λ x. read_on p (others x)) known (λ m. Joined (F (get m)) (G m))
then_reads {X} {A} {M} {p} {F} {known} {G} others first get tail = record {
  takes = λ x bytes m fits e.
      let a = bind_ok (p bytes) (λ v. others x v.0 v.1) m e in
      let t = first.takes bytes a.0 fits a.1 in
      let u = tail.takes (x, a.0.0) a.0.1 m t.left_fits a.2 in (
        ap (λ (y : X × A). y.0) u.0,
        record {
          front = t.text;
          back = a.0.1;
          whole = t.parts;
          front_is = subst (λ (v : A). F v t.text) (sym (ap (λ (y : X × A). y.1) u.0)) t.is;
          back_is = u.1;
        },
      );
  again =
      λ m bytes joined. ap (read_on p (others (known m))) joined.whole ∙ rw (first.again (get m) joined.front
      joined.back joined.front_is) (tail.again m joined.back joined.back_is);
}

-- the last field, which is all that is left
pub last_reads : {X A M : Type 0} {q : X → List ℕ → Result (A × List ℕ) DecodeFault} {G : X → A → List ℕ → Type 0} {known : M → X} (make : X → A → M)
    → ((x : X) → IsLast (q x) (G x)) → (get : M → A) → ((m : M) → make (known m) (get m) ≡ m)
    → ((x : X) (a : A) → (known (make x a) ≡ x) × (get (make x a) ≡ a))
    → Reads (λ x. read_on (q x) (λ a. made (make x a))) known (λ m. G (known m) (get m))
last_reads {X} {A} {M} {q} {G} {known} make last get whole parts = record {
  takes = λ x bytes m fits e.
      let a = bind_ok (q x bytes) (λ v. made (make x v.0) v.1) m e in
      let law = last x in
      let same : make x a.0.0 ≡ m = ok_is (make x a.0.0) m a.2 in
      let back = parts x a.0.0 in
      let is : G (known (make x a.0.0)) (get (make x a.0.0)) bytes = rw (back.0, back.1) (law.takes bytes a.0 fits a.1) in
      subst (λ (n : M). (known n ≡ x) × G (known n) (get n) bytes) same (back.0, is);
  again = λ m bytes is.
      let law = last (known m) in
      rw (law.again (get m) bytes is) (ap (λ (n : M). Ok n) (whole m));
}

-- no other field: what is left isn't kept
pub none_reads : {X M : Type 0} {known : M → X} (make : X → M) → ((m : M) → make (known m) ≡ m)
    → ((x : X) → known (make x) ≡ x) → Reads (λ x. made (make x)) known (λ m b. Unit {0})
none_reads {X} {M} {known} make whole parts = record {
  takes = λ x bytes m fits e. (subst (λ (n : M). known n ≡ x) (ok_is (make x) m e) (parts x), tt);
  again = λ m bytes is. ap (λ (n : M). Ok n) (whole m);
}

pub all_reads : {M : Type 0} {at : List ℕ → Result M DecodeFault} {Fields : M → List ℕ → Type 0}
    → Reads (λ (x : Unit {0}). at) (λ m. tt) Fields → IsText at Fields
all_reads {M} {at} {Fields} reads = record {
  takes = λ bytes m fits e. (reads.takes tt bytes m fits e).1;
  again = reads.again;
}
