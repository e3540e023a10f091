-- Two chains of labels, followed in lockstep.
use Rattle.std.proofs.Common.{◌≡◌, ℕ, ◌-◌, ◌<◌, ◌≤◌, List, [], ◌∷◌, ◌++◌, length, sym, ◌∙◌, ap, subst, inl, inr, arith}
use Rattle.std.proofs.lemmas.List.{append_assoc}
use Rattle.lgm_graph.specs.Graph.{Graph}
use Rattle.lgm_graph.specs.declared.edge.Edge.{Edge}
use Rattle.lgm_route.specs.declared.label.Label.{Label}
use Rattle.lgm_route.specs.inner.Numbered.{ids}
use Rattle.lgm_route.specs.inner.Searching.{NotAfter, label_at, Spells, IsSpelled, IdsFirst, IdsAfter, Begins, first_of}
use Rattle.lgm_route.proofs.Orders.{NotAfter-refl, NotAfter-join, NotAfter-heads, NotAfter-tails}
use Rattle.lgm_route.proofs.Labels.{Spells-unique}

-- this many edges from the end the chains are at these labels, and what follows decides
pub record AreBeside (graph : Graph) (labels : List Label) (label other here there : Label) (hops : ℕ) : Type 0 where
  pub rest : List Edge
  pub spells : Spells graph labels here rest
  pub long : length rest ≡ hops
  pub also : List Edge
  pub spells_also : Spells graph labels there also
  pub long_also : length also ≡ hops
  pub first : NotAfter (ids rest) (ids also) → IdsFirst graph labels label other
  pub after : NotAfter (ids also) (ids rest) → IdsFirst graph labels other label
  pub strictly : (NotAfter (ids rest) (ids also) → ⊥) → IdsAfter graph labels label other

pub beside_start : (graph : Graph) (labels : List Label) (label other : Label) → IsSpelled graph labels label
    → IsSpelled graph labels other → label.hops ≡ other.hops →
    AreBeside graph labels label other label other label.hops
beside_start graph labels label other h k e =
    record {
      rest = h.0;
      spells = h.1;
      long = h.2;
      also = k.0;
      spells_also = k.1;
      long_also = k.2 ∙ sym e;
      first = λ p rest also s t m n. move rest also s t m n p;
      after = λ p also rest t s n m. move_back rest also s t m n p;
      strictly = λ not rest also s t m n q. not (back rest also s t m n q);
    }
  where
    same : (rest : List Edge) → Spells graph labels label rest → length rest ≡ label.hops → h.0 ≡ rest
    same rest s m = Spells-unique graph labels label h.0 rest h.1 s (h.2 ∙ sym m)

    same_also : (also : List Edge) → Spells graph labels other also → length also ≡ other.hops → k.0 ≡ also
    same_also also t n = Spells-unique graph labels other k.0 also k.1 t (k.2 ∙ sym n)

    move : (rest also : List Edge) → Spells graph labels label rest → Spells graph labels other also
        → length rest ≡ label.hops → length also ≡ other.hops →
        NotAfter (ids h.0) (ids k.0) → NotAfter (ids rest) (ids also)
    move rest also s t m n p =
        subst (λ r. NotAfter (ids r) (ids also)) (same rest s m)
        (subst (λ r. NotAfter (ids h.0) (ids r)) (same_also also t n) p)

    move_back : (rest also : List Edge) → Spells graph labels label rest → Spells graph labels other also
        → length rest ≡ label.hops → length also ≡ other.hops →
        NotAfter (ids k.0) (ids h.0) → NotAfter (ids also) (ids rest)
    move_back rest also s t m n p =
        subst (λ r. NotAfter (ids also) (ids r)) (same rest s m)
        (subst (λ r. NotAfter (ids r) (ids h.0)) (same_also also t n) p)

    back : (rest also : List Edge) → Spells graph labels label rest → Spells graph labels other also
        → length rest ≡ label.hops → length also ≡ other.hops →
        NotAfter (ids rest) (ids also) → NotAfter (ids h.0) (ids k.0)
    back rest also s t m n q =
        subst (λ r. NotAfter (ids r) (ids k.0)) (sym (same rest s m))
        (subst (λ r. NotAfter (ids rest) (ids r)) (sym (same_also also t n)) q)

-- if edges are left, each label has one, and a parent
pub record HasMore (graph : Graph) (labels : List Label) (label : Label) (rest : List Edge) (hops : ℕ) : Type 0 where
  pub begins : Begins graph labels label
  pub tail : List Edge
  pub is : rest ≡ first_of graph labels label ∷ tail
  pub spells : Spells graph labels (label_at labels label.parent) tail
  pub long : length tail ≡ hops - 1

pub has_more : (graph : Graph) (labels : List Label) (label : Label) (rest : List Edge) (hops : ℕ) →
    Spells graph labels label rest → length rest ≡ hops → 0 < hops → HasMore graph labels label rest hops
has_more graph labels label [] hops s e p = absurd (omega arith)
has_more graph labels label (edge ∷ rest) hops s e p =
    record { begins = s.1; tail = rest; is = ap (λ x. x ∷ rest) (sym s.0); spells = s.2; long = omega arith }

-- the edges so far, followed by those of the label, are the walk
pub record IsOnTheWay (graph : Graph) (labels : List Label) (found here : Label) (hops : ℕ) (walk : List Edge) : Type 0 where
  pub rest : List Edge
  pub spells : Spells graph labels here rest
  pub long : length rest ≡ hops
  pub whole : Spells graph labels found (walk ++ rest)
  pub all : length (walk ++ rest) ≡ found.hops

pub way_more : (graph : Graph) (labels : List Label) (found here : Label) (hops : ℕ) (walk : List Edge)
    → (way : IsOnTheWay graph labels found here hops walk) → 0 < hops →
    HasMore graph labels here way.rest hops
way_more graph labels found here hops walk way left = has_more graph labels here way.rest hops way.spells way.long left

pub way_step : (graph : Graph) (labels : List Label) (found here : Label) (hops : ℕ) (walk : List Edge)
    → IsOnTheWay graph labels found here hops walk → 0 < hops →
    IsOnTheWay graph labels found (label_at labels here.parent) (hops - 1) (walk ++ first_of graph labels here ∷ [])
way_step graph labels found here hops walk way left =
    let more = way_more graph labels found here hops walk way left in
    let same : walk ++ way.rest ≡ (walk ++ first_of graph labels here ∷ []) ++ more.tail =
    ap (λ r. walk ++ r) more.is ∙ sym (append_assoc walk (first_of graph labels here ∷ []) more.tail) in
    record {
      rest = more.tail;
      spells = more.spells;
      long = more.long;
      whole = subst (λ r. Spells graph labels found r) same way.whole;
      all = subst (λ r. length r ≡ found.hops) same way.all;
    }

module _ {graph : Graph} {labels : List Label} {label other here there : Label} {hops : ℕ}
    (beside : AreBeside graph labels label other here there hops) (left : 0 < hops) where
  pub one : HasMore graph labels here beside.rest hops
  one = has_more graph labels here beside.rest hops beside.spells beside.long left

  pub two : HasMore graph labels there beside.also hops
  two = has_more graph labels there beside.also hops beside.spells_also beside.long_also left

  pub beside_less : (first_of graph labels here).scid < (first_of graph labels there).scid → IdsFirst graph labels label other
  beside_less p =
      beside.first (subst (λ r. NotAfter (ids r) (ids beside.also)) (sym one.is)
      (subst (λ r. NotAfter (ids (first_of graph labels here ∷ one.tail)) (ids r)) (sym two.is)
      (NotAfter-join (first_of graph labels here).scid (first_of graph labels there).scid (ids one.tail) (ids two.tail) (inl p))))

  pub beside_more : (first_of graph labels there).scid < (first_of graph labels here).scid → IdsFirst graph labels other label
  beside_more p =
      beside.after (subst (λ r. NotAfter (ids beside.also) (ids r)) (sym one.is)
      (subst (λ r. NotAfter (ids r) (ids (first_of graph labels here ∷ one.tail))) (sym two.is)
      (NotAfter-join (first_of graph labels there).scid (first_of graph labels here).scid (ids two.tail) (ids one.tail) (inl p))))

  -- the order of what is left, by the first edges
  both : NotAfter (ids beside.rest) (ids beside.also)
      → NotAfter (ids (first_of graph labels here ∷ one.tail)) (ids (first_of graph labels there ∷ two.tail))
  both q =
      subst (λ r. NotAfter (ids (first_of graph labels here ∷ one.tail)) (ids r)) two.is
      (subst (λ r. NotAfter (ids r) (ids beside.also)) one.is q)

  pub beside_later : (first_of graph labels there).scid < (first_of graph labels here).scid → IdsAfter graph labels label other
  beside_later p = beside.strictly (λ q. over (NotAfter-heads (first_of graph labels here).scid (first_of graph labels there).scid
      (ids one.tail) (ids two.tail) (both q)))
    where
      over : (first_of graph labels here).scid ≤ (first_of graph labels there).scid → ⊥
      over h = omega arith

  pub strict_tail : (first_of graph labels here).scid ≡ (first_of graph labels there).scid
      → (NotAfter (ids one.tail) (ids two.tail) → ⊥) → IdsAfter graph labels label other
  strict_tail e not =
      beside.strictly (λ q. not (NotAfter-tails (first_of graph labels here).scid (first_of graph labels there).scid
      (ids one.tail) (ids two.tail) e (both q)))

  pub first_tail : (first_of graph labels here).scid ≡ (first_of graph labels there).scid
      → NotAfter (ids one.tail) (ids two.tail) → IdsFirst graph labels label other
  first_tail e p =
      beside.first (subst (λ r. NotAfter (ids r) (ids beside.also)) (sym one.is)
      (subst (λ r. NotAfter (ids (first_of graph labels here ∷ one.tail)) (ids r)) (sym two.is)
      (NotAfter-join (first_of graph labels here).scid (first_of graph labels there).scid (ids one.tail) (ids two.tail) (inr (e, p)))))

  pub after_tail : (first_of graph labels here).scid ≡ (first_of graph labels there).scid
      → NotAfter (ids two.tail) (ids one.tail) → IdsFirst graph labels other label
  after_tail e p =
      beside.after (subst (λ r. NotAfter (ids beside.also) (ids r)) (sym one.is)
      (subst (λ r. NotAfter (ids r) (ids (first_of graph labels here ∷ one.tail))) (sym two.is)
      (NotAfter-join (first_of graph labels there).scid (first_of graph labels here).scid (ids two.tail) (ids one.tail) (inr (sym e, p)))))

  pub beside_next : (first_of graph labels here).scid ≡ (first_of graph labels there).scid →
      AreBeside graph labels label other (label_at labels here.parent) (label_at labels there.parent) (hops - 1)
  beside_next e =
      record {
        rest = one.tail;
        spells = one.spells;
        long = one.long;
        also = two.tail;
        spells_also = two.spells;
        long_also = two.long;
        first = first_tail e;
        after = after_tail e;
        strictly = strict_tail e;
      }

  pub beside_same : (first_of graph labels here).scid ≡ (first_of graph labels there).scid
      → here.parent ≡ there.parent → IdsFirst graph labels label other
  beside_same e n =
      let same : one.tail ≡ two.tail = Spells-unique graph labels (label_at labels there.parent) one.tail two.tail
      (subst (λ i. Spells graph labels (label_at labels i) one.tail) n one.spells) two.spells (one.long ∙ sym two.long) in
      first_tail e (subst (λ r. NotAfter (ids one.tail) (ids r)) same (NotAfter-refl (ids one.tail)))

module _ {graph : Graph} {labels : List Label} {label other here there : Label} {hops : ℕ}
    (beside : AreBeside graph labels label other here there hops) where
  pub beside_end : hops ≡ 0 → IdsFirst graph labels label other
  beside_end e = by beside.rest beside.also (beside.long ∙ e) (beside.long_also ∙ e) beside.first
    where
      by : (rest also : List Edge) → length rest ≡ 0 → length also ≡ 0 → (NotAfter (ids rest) (ids also)
          → IdsFirst graph labels label other) → IdsFirst graph labels label other
      by [] [] m n f = f (NotAfter-refl [])
      by [] (edge ∷ also) m n f = absurd (omega arith)
      by (edge ∷ rest) also m n f = absurd (omega arith)
