use Rattle.std.proofs.Common.{◌≡◌, ℕ, ◌+◌, ◌<◌, true, false, List, ◌∷◌, length, get_or, drop, Ok, sym, refl, ◌∙◌}
use Rattle.std.proofs.lemmas.List.{drop_more}
use Rattle.kinds.specs.declared.Refusal.TheVariants.{NoAtom}
use Rattle.kinds.specs.Atoms.{refused_at, is_operator}
use Rattle.byte_kind.specs.declared.class.ByteClass.{ByteClass}
use Rattle.byte_kind.specs.Reading.{set_from, escape_from, atom_from, byte_reading}
use Rattle.byte_kind.specs.Class.{only_class, others}
use Rattle.std.proofs.lemmas.Bool.{ne_eqb}

-- The atom at a place, by its first byte.
module _ (text : List ℕ) (i : ℕ) (h : i < length text) where
  at_byte : byte_reading text i ≡ atom_from (get_or text i 0 ∷ drop (i + 1) text) i
  unfolding byte_reading
  at_byte = rw (drop_more text i 0 h)

  pub at_dot : (c : ByteClass) → get_or text i 0 ≡ 46 → c ≡ others (only_class 10)
      → Ok (record { class = c; length = 1 }) ≡ byte_reading text i
  at_dot c e k = rw k (sym (at_byte ∙ rw e refl))

  pub at_escape : get_or text i 0 ≡ 92 → escape_from (drop (i + 1) text) i ≡ byte_reading text i
  at_escape e = sym (at_byte ∙ rw e refl)

  pub at_set : get_or text i 0 ≡ 91 → set_from (drop (i + 1) text) i ≡ byte_reading text i
  at_set e = sym (at_byte ∙ rw e refl)

  -- a byte that is none of these three
  module _ (dot : get_or text i 0 ≡ 46 → ⊥) (escape : get_or text i 0 ≡ 92 → ⊥) (set : get_or text i 0 ≡ 91 → ⊥) where
    pub at_operator : is_operator (get_or text i 0) ≡ true → refused_at NoAtom i ≡ byte_reading text i
    at_operator o =
        sym (at_byte ∙ rw (ne_eqb (get_or text i 0) 46 dot, ne_eqb (get_or text i 0) 92 escape, ne_eqb (get_or text i 0) 91 set, o))

    pub at_ordinary : (c : ByteClass) → is_operator (get_or text i 0) ≡ false → c ≡ only_class (get_or text i 0)
        → Ok (record { class = c; length = 1 }) ≡ byte_reading text i
    at_ordinary c o k =
        rw k
        (sym (at_byte ∙ rw (ne_eqb (get_or text i 0) 46 dot, ne_eqb (get_or text i 0) 92 escape, ne_eqb (get_or text i 0) 91 set, o)))
