-- Address descriptors: reading returns a value if and only if the bytes encode it.
use Rattle.std.proofs.Common.{◌≡◌, ℕ, ◌%◌, ◌^◌, ◌<◌, cond, eqb, List, [], ◌∷◌, ◌++◌, length, Result}
use Rattle.std.proofs.Common.{Ok, Err, refl, sym, ap, subst, ◌∙◌, append_assoc, arith, inl, inr}
use Rattle.std.specs.List.{flat_map, AllByRecursion}
use Rattle.std.specs.Int.{w8, w16, to_be_bytes}
use Rattle.std.proofs.lemmas.Bool.{eqb-true}
use Rattle.std.proofs.lemmas.List.{length-append, append-nil}
use Rattle.std.proofs.lemmas.List.Concat.{flat_map-cons, flat_map-append}
use Rattle.lgm_wire.specs.reading.Reading.{◌>>=◌}
use Rattle.lgm_gossip.specs.declared.fault.DecodeFault.{DecodeFault}
use Rattle.lgm_gossip.specs.declared.fault.DecodeFault.TheVariants.{Cut}
use Rattle.lgm_gossip.specs.declared.address.Address.{Address}
use Rattle.lgm_gossip.specs.declared.address.Address.TheVariants as addresses
use Rattle.lgm_gossip.specs.reading.FieldReading.{fixed_at, number_at}
use Rattle.lgm_gossip.specs.Addresses.{descriptor, AddressFits, IsLongest}
use Rattle.lgm_gossip.specs.inner.AddressesReading.{address_at, descriptor_at}
use Rattle.lgm_gossip.proofs.WireLaws.{chosen, bind_ok, ok_is, IsBytes, IsBytes-rest, IsBytes-back, wide16}
use Rattle.lgm_gossip.proofs.FieldLaws.{Takes, fixed_field, number_field, wide8}

-- b is the one descriptor of a
pub record Describes (a : Address) (b : List ℕ) : Type 0 where
  pub whole : b ≡ descriptor a
  pub fits : AddressFits a

-- ---- an address and its port

record IsAddress (len : ℕ) (variant : List ℕ → ℕ → Address) (a : Address) (b : List ℕ) : Type 0 where
  address : List ℕ
  port : ℕ
  same : variant address port ≡ a
  whole : b ≡ address ++ to_be_bytes w16 port
  len_is : length address ≡ len
  port_fits : port < 2 ^ 16

address_takes : (len : ℕ) (variant : List ℕ → ℕ → Address) (bytes : List ℕ) (x : Address × List ℕ)
    → IsBytes bytes → address_at len variant bytes ≡ Ok x → Takes (IsAddress len variant x.0) bytes x.1
address_takes len variant bytes x fits e =
    let a = bind_ok (fixed_at len bytes) (λ address. number_at w16 address.1 >>= λ port. Ok (variant address.0 port.0, port.1)) x e in
    let b = bind_ok (number_at w16 a.0.1) (λ port. Ok (variant a.0.0 port.0, port.1)) x a.2 in
    let field = fixed_field len in
    let number = number_field w16 wide16 in
    let t = field.takes bytes a.0 fits a.1 in
    let u = number.takes a.0.1 b.0 t.left_fits b.1 in
    let made : Address × List ℕ = (variant a.0.0 b.0.0, b.0.1) in
    subst (λ (y : Address × List ℕ). Takes (IsAddress len variant y.0) bytes y.1) (ok_is made x b.2) (record {
      text = t.text ++ u.text;
      parts = t.parts ∙ ap (λ (s : List ℕ). t.text ++ s) u.parts ∙ sym (append_assoc t.text u.text b.0.1);
      is =
          record {
            address = a.0.0;
            port = b.0.0;
            same = refl;
            whole = ap (λ (s : List ℕ). s ++ u.text) t.is.0 ∙ ap (λ (s : List ℕ). a.0.0 ++ s) u.is.0;
            len_is = t.is.1;
            port_fits = u.is.1;
          };
      left_fits = u.left_fits;
    })

address_again : (len : ℕ) (variant : List ℕ → ℕ → Address) (address : List ℕ) (port : ℕ) (left : List ℕ)
    → length address ≡ len → port < 2 ^ 16
    → address_at len variant ((address ++ to_be_bytes w16 port) ++ left) ≡ Ok (variant address port, left)
address_again len variant address port left len_is fits =
    let field = fixed_field len in
    let number = number_field w16 wide16 in
    ap (address_at len variant) (append_assoc address (to_be_bytes w16 port) left) ∙ rw (
      field.again address address (to_be_bytes w16 port ++ left) (refl, len_is),
      number.again port (to_be_bytes w16 port) left (refl, fits),
    ) refl

-- ---- a descriptor

-- one line of `descriptor_at`
line : (kind k len : ℕ) (variant : List ℕ → ℕ → Address) (left : List ℕ) (x : Address × List ℕ)
    (others : Result (Address × List ℕ) DecodeFault) → IsBytes left
    → ((address : List ℕ) (port : ℕ) → length address ≡ len → port < 2 ^ 16
    → Describes (variant address port) (k ∷ (address ++ to_be_bytes w16 port)))
    → cond (eqb kind k) (address_at len variant left) others ≡ Ok x
    → (others ≡ Ok x → Takes (Describes x.0) (kind ∷ left) x.1) → Takes (Describes x.0) (kind ∷ left) x.1
line kind k len variant left x others fits describes e later =
    elim (chosen (eqb kind k) (address_at len variant left) others (Ok x) e) [
      | inl is ↦
          let t = address_takes len variant left x fits is.1 in
          let kind_is : kind ≡ k = eqb-true kind k is.0 in
          let d = describes t.is.address t.is.port t.is.len_is t.is.port_fits in
          record {
            text = kind ∷ t.text;
            parts = ap (λ (s : List ℕ). kind ∷ s) t.parts;
            is =
                subst (λ (a : Address). Describes a (kind ∷ t.text)) t.is.same (record {
                  whole =
                      ap (λ (b : ℕ). b ∷ t.text) kind_is ∙ ap (λ (s : List ℕ). k ∷ s) t.is.whole ∙ d.whole;
                  fits = d.fits;
                });
            left_fits = t.left_fits;
          }
      | inr other ↦ later other.1
    ]

name_line : (kind : ℕ) (left : List ℕ) (x : Address × List ℕ) → IsBytes left
    → cond (eqb kind 5) (number_at w8 left >>= λ len. address_at len.0 (λ hostname port.
    addresses.Name hostname port) len.1) (Err Cut) ≡ Ok x → Takes (Describes x.0) (kind ∷ left) x.1
name_line kind left x fits e =
    elim (chosen (eqb kind 5) (number_at w8 left >>= λ len.
    address_at len.0 (λ hostname port. addresses.Name hostname port) len.1) (Err Cut) (Ok x) e) [
      | inl is ↦
          let a = bind_ok (number_at w8 left) (λ len. address_at len.0 (λ hostname port. addresses.Name hostname port) len.1) x is.1 in
          let number = number_field w8 wide8 in
          let n = number.takes left a.0 fits a.1 in
          let t = address_takes a.0.0 (λ hostname port. addresses.Name hostname port) a.0.1 x n.left_fits a.2 in
          let kind_is : kind ≡ 5 = eqb-true kind 5 is.0 in
          let one_byte : a.0.0 % 256 ≡ length t.is.address = omega (arith, n.is.1, t.is.len_is) in
          let len_text : n.text ≡ length t.is.address ∷ [] = n.is.0 ∙ ap (λ (b : ℕ). b ∷ []) one_byte in
          record {
            text = kind ∷ (n.text ++ t.text);
            parts = ap (λ (s : List ℕ). kind ∷ s) (n.parts ∙ ap (λ (s : List ℕ). n.text ++ s) t.parts ∙ sym (append_assoc n.text t.text x.1));
            is = subst (λ (a : Address). Describes a (kind ∷ (n.text ++ t.text))) t.is.same (record {
              whole =
                  ap (λ (b : ℕ). b ∷ (n.text ++ t.text)) kind_is ∙ ap (λ (s : List ℕ). 5
                  ∷ (s ++ t.text)) len_text ∙ ap (λ (s : List ℕ). 5 ∷ length t.is.address ∷ s) t.is.whole;
              fits = (omega (arith, n.is.1, t.is.len_is), t.is.port_fits);
            });
            left_fits = t.left_fits;
          }
      | inr bad ↦ absurd (let no = bad.1 in cc)
    ]

pub descriptor_takes : (bytes : List ℕ) (x : Address × List ℕ) → IsBytes bytes → descriptor_at bytes ≡ Ok x → Takes (Describes x.0) bytes x.1
unfolding descriptor_at
descriptor_takes [] x fits e = absurd cc
descriptor_takes (kind ∷ left) x fits e =
    let left_fits = IsBytes-rest kind left fits in
    line kind 1 4 (λ address port. addresses.V4 address port) left x _ left_fits (λ a p len lt. record { whole = refl; fits = (len, lt) }) e (λ e.
    line kind 2 16 (λ address port. addresses.V6 address port) left x _ left_fits (λ a p len lt. record { whole = refl; fits = (len, lt) }) e (λ e.
    line kind 3 10 (λ address port. addresses.Tor2 address port) left x _ left_fits (λ a p len lt. record { whole = refl; fits = (len, lt) }) e (λ e.
    line kind 4 35 (λ address port. addresses.Tor3 address port) left x _ left_fits (λ a p len lt. record { whole = refl; fits = (len, lt) }) e (λ e.
    name_line kind left x left_fits e))))

pub descriptor_again : (a : Address) (left : List ℕ) → AddressFits a → descriptor_at (descriptor a ++ left) ≡ Ok (a, left)
unfolding descriptor_at
descriptor_again (addresses.V4 address port) left fits = address_again 4 (λ address port. addresses.V4 address port) address port left fits.0 fits.1
descriptor_again (addresses.V6 address port) left fits = address_again 16 (λ address port. addresses.V6 address port) address port left fits.0 fits.1
descriptor_again (addresses.Tor2 address port) left fits =
    address_again 10 (λ address port. addresses.Tor2 address port) address port left fits.0 fits.1
descriptor_again (addresses.Tor3 address port) left fits =
    address_again 35 (λ address port. addresses.Tor3 address port) address port left fits.0 fits.1
descriptor_again (addresses.Name hostname port) left fits =
    let number = number_field w8 wide8 in
    let one_byte : length hostname % 256 ≡ length hostname = omega (arith, fits.0) in
    let front =
    number.again (length hostname) (length hostname ∷ []) ((hostname ++ to_be_bytes w16 port) ++ left)
    (ap (λ (b : ℕ). b ∷ []) (sym one_byte), fits.0) in
    rw front (address_again (length hostname) (λ hostname port. addresses.Name hostname port) hostname port left refl fits.1)

-- ---- the descriptors that bytes begin with

-- some addresses were read, and rest is left
pub record IsRead (l : List Address) (bytes left : List ℕ) : Type 0 where
  pub fits : AllByRecursion AddressFits l
  pub whole : bytes ≡ flat_map descriptor l ++ left

fits-push : (l : List Address) (a : Address) → AllByRecursion AddressFits l → AddressFits a → AllByRecursion AddressFits (l ++ a ∷ [])
fits-push [] a all one = (one, tt)
fits-push (x ∷ xs) a all one = (all.0, fits-push xs a all.1 one)

pub goes_on : (l : List Address) (bytes left : List ℕ) (a : Address) (after : List ℕ) → IsBytes bytes
    → IsRead l bytes left → descriptor_at left ≡ Ok (a, after) → IsRead (l ++ a ∷ []) bytes after
goes_on l bytes left a after fits read e =
    let t = descriptor_takes left (a, after) (IsBytes-back bytes (flat_map descriptor l) left read.whole fits) e in
    record {
      fits = fits-push l a read.fits t.is.fits;
      whole =
          read.whole ∙ ap (λ (s : List ℕ). flat_map descriptor l ++ s) (t.parts ∙ ap (λ (s : List ℕ). s
          ++ after) t.is.whole) ∙ sym (append_assoc (flat_map descriptor l) (descriptor a) after)
          ∙ ap (λ (s : List ℕ). s ++ after) (sym (flat_map-append descriptor l (a ∷ []) ∙ ap (λ (s : List ℕ).
          flat_map descriptor l ++ s) (flat_map-cons descriptor a [] ∙ append-nil (descriptor a))));
    }

descriptor_len : (a : Address) → 0 < length (descriptor a)
descriptor_len (addresses.V4 address port) = omega arith
descriptor_len (addresses.V6 address port) = omega arith
descriptor_len (addresses.Tor2 address port) = omega arith
descriptor_len (addresses.Tor3 address port) = omega arith
descriptor_len (addresses.Name hostname port) = omega arith

pub shrinks : (l : List Address) (bytes left : List ℕ) (a : Address) (after : List ℕ) → IsBytes bytes
    → IsRead l bytes left → descriptor_at left ≡ Ok (a, after) → length after < length left
shrinks l bytes left a after fits read e =
    let t = descriptor_takes left (a, after) (IsBytes-back bytes (flat_map descriptor l) left read.whole fits) e in
    omega (arith, ap length (t.parts ∙ ap (λ (s : List ℕ). s ++ after) t.is.whole), length-append (descriptor a) after, descriptor_len a)

both_begin : (l m : List Address) (left other : List ℕ) (f : DecodeFault) → AllByRecursion AddressFits l
    → AllByRecursion AddressFits m → descriptor_at left ≡ Err f
    → flat_map descriptor l ++ left ≡ flat_map descriptor m ++ other → (more : List Address) × (l ≡ m ++ more)
both_begin l [] left other f l_fits m_fits ended e = (l, refl)
both_begin [] (a ∷ m) left other f l_fits m_fits ended e =
    let parts : left ≡ descriptor a ++ (flat_map descriptor m ++ other) =
    e ∙ ap (λ (s : List ℕ). s ++ other) (flat_map-cons descriptor a m)
    ∙ append_assoc (descriptor a) (flat_map descriptor m) other in
    let bad = sym ended ∙ ap descriptor_at parts ∙ descriptor_again a (flat_map descriptor m ++ other) m_fits.0 in
    absurd cc
both_begin (x ∷ l) (a ∷ m) left other f l_fits m_fits ended e =
    let l_parts : flat_map descriptor (x ∷ l) ++ left ≡ descriptor x ++ (flat_map descriptor l ++ left) =
    ap (λ (s : List ℕ). s ++ left) (flat_map-cons descriptor x l)
    ∙ append_assoc (descriptor x) (flat_map descriptor l) left in
    let m_parts : flat_map descriptor (a ∷ m) ++ other ≡ descriptor a ++ (flat_map descriptor m ++ other) =
    ap (λ (s : List ℕ). s ++ other) (flat_map-cons descriptor a m)
    ∙ append_assoc (descriptor a) (flat_map descriptor m) other in
    let l_read = descriptor_again x (flat_map descriptor l ++ left) l_fits.0 in
    let m_read = descriptor_again a (flat_map descriptor m ++ other) m_fits.0 in
    let same =
    ok_is (x, flat_map descriptor l ++ left) (a, flat_map descriptor m ++ other)
    (sym l_read ∙ ap descriptor_at (sym l_parts ∙ e ∙ m_parts) ∙ m_read) in
    let first : x ≡ a = ap (λ (p : Address × List ℕ). p.0) same in
    let others = both_begin l m left other f l_fits.1 m_fits.1 ended (ap (λ (p : Address × List ℕ). p.1) same) in
    (others.0, ap (λ (y : Address). y ∷ l) first ∙ ap (λ (ys : List Address). a ∷ ys) others.1)

pub is_longest : (l : List Address) (bytes left : List ℕ) (f : DecodeFault) → IsRead l bytes left → descriptor_at left ≡ Err f → IsLongest l bytes
is_longest l bytes left f read ended = record {
  begins = record { rest = left; fits = read.fits; whole = read.whole };
  longest = λ m begins. both_begin l m left begins.rest f read.fits begins.fits ended (sym read.whole ∙ begins.whole);
}
