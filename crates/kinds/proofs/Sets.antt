use Rattle.std.proofs.Common.{◌≡◌, ℕ, ◌+◌, ◌<◌, ◌≤◌, Bool, false, ◌⊎◌, List, [], ◌∷◌, length, get_or, drop, Result, refl, sym, inl, inr, ◌∙◌, arith}
use Rattle.std.proofs.lemmas.List.{drop_more, drop_all}
use Rattle.std.proofs.lemmas.Bool.{ne_eqb}
use Rattle.kinds.specs.declared.Atom.{Atom}
use Rattle.kinds.specs.declared.Refused.{Refused}
use Rattle.kinds.specs.declared.Refusal.TheVariants.{UnfinishedSet}
use Rattle.kinds.specs.Atoms.{refused_at}
use Rattle.kinds.specs.Language.{Leads, caret, straight}
use Rattle.kinds.specs.Sets.{Turn, after_turn, run_set, set_from}

-- The machine of a set, run over what is left of a text at a place.
module _ {M C : Type 0} (start : M) (turn : M → ℕ → ℕ → ℕ → Turn M C) (others : C → C) where
  module _ (negated : Bool) (bracket : ℕ) where
    -- One byte of the run, where the turn that it makes is known.
    run_at : (text : List ℕ) (i : ℕ) (state : M) (t : Turn M C) → i < length text → t ≡ turn state bracket i (get_or text i 0)
        → run_set start turn others negated bracket (drop i text) i state
        ≡ after_turn start turn others negated bracket (λ next. run_set start turn others negated bracket (drop (i + 1) text) (i + 1) next) i t
    unfolding run_set
    run_at text i state t h e = rw e (rw (drop_more text i 0 h))

    -- What the run gives is what the turn and the rest of the run give.
    pub goes_on : (text : List ℕ) (i : ℕ) (state : M) (t : Turn M C) (whole : Result (Atom C) Refused) → i < length text
        → t ≡ turn state bracket i (get_or text i 0) → run_set start turn others negated bracket (drop i text) i state ≡ whole
        → after_turn start turn others negated bracket (λ next. run_set start turn others negated bracket (drop (i + 1) text) (i + 1) next) i t ≡ whole
    goes_on text i state t whole h e w = sym (run_at text i state t h e) ∙ w

    pub run_end : (text : List ℕ) (i : ℕ) (state : M) → length text ≤ i
        → run_set start turn others negated bracket (drop i text) i state ≡ refused_at UnfinishedSet bracket
    unfolding run_set
    run_end text i state h = rw (drop_all i text h)

  -- What stands behind `[`, where no `^` leads.
  pub behind_bracket : (text : List ℕ) (i : ℕ)
      → (length text ≤ i + 1) ⊎ ((i + 1 < length text) × (get_or text (i + 1) 0 ≡ 94 → ⊥))
      → run_set start turn others false i (drop (i + 1) text) (i + 1) start ≡ set_from start turn others (drop (i + 1) text) i
  unfolding run_set
  behind_bracket text i (inl h) = rw (drop_all (i + 1) text h)
  behind_bracket text i (inr h) =
      let l = h.0 in rw (drop_more text (i + 1) 0 l) (rw (ne_eqb (get_or text (i + 1) 0) 94 h.1))

  -- What follows `[` is run from behind a leading `^`.
  pub leads_run : {inside rest : List ℕ} {negated : Bool} → Leads inside negated rest → (i : ℕ)
      → (p : ℕ) × (p + length rest ≡ i + 1 + length inside)
      × (set_from start turn others inside i ≡ run_set start turn others negated i rest p start)
  unfolding run_set
  leads_run caret i = (i + 2, omega arith, refl)
  leads_run (straight {text = []} n) i = (i + 1, refl, refl)
  leads_run (straight {text = b ∷ rest} n) i = (i + 1, refl, rw (ne_eqb b 94 n))
