use Rattle.std.proofs.Common.{◌≡◌, ℕ, zero, suc, ◌+◌, ◌<◌, ◌≤◌, ◌⊎◌, List, [], ◌∷◌, length, get_or, Ok, Err, Result, sym, refl, ap, ◌∙◌, subst, inl, inr, arith}
use Rattle.std.proofs.lemmas.Bool.{ne_eqb, cases_lt}
use Rattle.kinds.specs.declared.Atom.{Atom}
use Rattle.kinds.specs.declared.Refused.{Refused}
use Rattle.kinds.specs.Atoms.{Operator, Within}
use Rattle.kinds.proofs.Operators.{cases_operator}
use Rattle.trees.specs.declared.Postfix.TheVariants.{Star, Plus, Optional}
use Rattle.reader.specs.declared.token.Token.{Token}
use Rattle.reader.specs.declared.token.Token.TheVariants.{Open, Close, Bar, Repeat, Atom as AnAtom}
use Rattle.reader.specs.Tokens.{Placed, placed, Ending, text_ends, unreadable, Spells, an_open, a_close, a_bar, a_star, a_plus, a_question, Tokens, no_more, no_token, an_operator, an_atom, atom_cut, operator_cut, cut_at, tokens_from}
use Rattle.reader.proofs.Cuts.{tokens_at, tokens_cut, tokens_stuck, tokens_end}

-- The computed tokens are the tokens.

spelled_as : {C : Type 0} (b c : ℕ) (x : Token C) → b ≡ c → Spells c x → (y : Token C) × Spells b y
spelled_as {C = C} b c x e h = (x, subst (λ z. Spells {C = C} z x) (sym e) h)

spelled : {C : Type 0} (b : ℕ) → Operator b → (x : Token C) × Spells b x
spelled b (inl e) = spelled_as b 40 Open e an_open
spelled b (inr (inl e)) = spelled_as b 41 Close e a_close
spelled b (inr (inr (inl e))) = spelled_as b 124 Bar e a_bar
spelled b (inr (inr (inr (inl e)))) = spelled_as b 42 (Repeat Star) e a_star
spelled b (inr (inr (inr (inr (inl e))))) = spelled_as b 43 (Repeat Plus) e a_plus
spelled b (inr (inr (inr (inr (inr e))))) = spelled_as b 63 (Repeat Optional) e a_question

module _ {C : Type 0} (reading : List ℕ → ℕ → Result (Atom C) Refused) (text : List ℕ) where
  cut_of_operator : (i b : ℕ) (x : Token C) → Spells b x → cut_at reading text i b ≡ operator_cut x
  cut_of_operator i b x an_open = refl
  cut_of_operator i b x a_close = refl
  cut_of_operator i b x a_bar = refl
  cut_of_operator i b x a_star = refl
  cut_of_operator i b x a_plus = refl
  cut_of_operator i b x a_question = refl

  cut_of_atom : (i b : ℕ) → (Operator b → ⊥) → cut_at reading text i b ≡ atom_cut (reading text i)
  cut_of_atom i b n =
      rw (
        ne_eqb b 40 (λ e. n (inl e)),
        ne_eqb b 41 (λ e. n (inr (inl e))),
        ne_eqb b 124 (λ e. n (inr (inr (inl e)))),
        ne_eqb b 42 (λ e. n (inr (inr (inr (inl e))))),
        ne_eqb b 43 (λ e. n (inr (inr (inr (inr (inl e)))))),
        ne_eqb b 63 (λ e. n (inr (inr (inr (inr (inr e)))))),
      )

  -- Where a text ends, it ends at its length.
  abbrev EndsWell : Ending → Type 0
  EndsWell (text_ends n) = n ≡ length text
  EndsWell (unreadable f) = Unit {0}

  pub ends_well : {i : ℕ} {ts : List (Placed C)} {e : Ending} → Tokens reading text i ts e → EndsWell e
  ends_well (no_more q) = q
  ends_well (no_token h o q) = tt
  ends_well (an_operator h s d) = ends_well d
  ends_well (an_atom h o q d) = ends_well d

  -- A cut of the text from a place on.
  record CutFrom (i : ℕ) : Type 0 where
    pub tokens : List (Placed C)
    pub ending : Ending
    pub is : Tokens reading text i tokens ending

  module _ (within : (j : ℕ) → j < length text → Within text j (reading text j)) where
    atom_bounds : (i : ℕ) (a : Atom C) → i < length text → reading text i ≡ Ok a → (1 ≤ a.length) × (i + a.length ≤ length text)
    atom_bounds i a h q = subst (λ z. Within text i z) q (within i h)

    -- Of any cut of a text the tokens are the computed ones.
    tokens_before : {i : ℕ} {ts : List (Placed C)} {e : Ending} → Tokens reading text i ts e → tokens_at reading text i ≡ (ts, e)
    tokens_before (no_more q) =
        subst (λ j. tokens_at reading text j ≡ ([], text_ends j)) (sym q) (tokens_end reading text)
    tokens_before (no_token {i} {f} h o q) =
        tokens_stuck reading text i f h (cut_of_atom i (get_or text i 0) o ∙ ap (λ z. atom_cut z) q)
    tokens_before (an_operator {i} {x} h s d) =
        tokens_cut reading text i (record { token = x; length = 1 }) h (cut_of_operator i (get_or text i 0) x s) (omega arith, omega arith)
        ∙ ap (λ z. (placed i x ∷ z.0, z.1)) (tokens_before d)
    tokens_before (an_atom {i} {a} h o q d) =
        tokens_cut reading text i (record { token = AnAtom a.class; length = a.length }) h
        (cut_of_atom i (get_or text i 0) o ∙ ap (λ z. atom_cut z) q) (atom_bounds i a h q)
        ∙ ap (λ z. (placed i (AnAtom a.class) ∷ z.0, z.1)) (tokens_before d)

    -- There is one from every place; a token has a byte at least, so fuel for all the bytes suffices.
    cut_from : (fuel i : ℕ) → length text ≤ i + fuel → i ≤ length text → CutFrom i
    cut_from zero i h l = record { tokens = []; ending = text_ends i; is = no_more (omega arith) }
    cut_from (suc fuel) i h l = go (cases_lt i (length text)) (λ j k m. cut_from fuel j k m)
      where
        atom : (r : Result (Atom C) Refused) → reading text i ≡ r → i < length text → (Operator (get_or text i 0) → ⊥)
            → ((j : ℕ) → length text ≤ j + fuel → j ≤ length text → CutFrom j) → CutFrom i
        atom (Err f) q k o rest = record { tokens = []; ending = unreadable f; is = no_token k o q }
        atom (Ok a) q k o rest =
            let m = (atom_bounds i a k q).0 in
            let n = (atom_bounds i a k q).1 in
            let r = rest (i + a.length) (omega arith) (omega arith) in
            record { tokens = placed i (AnAtom a.class) ∷ r.tokens; ending = r.ending; is = an_atom k o q r.is }

        byte : Operator (get_or text i 0) ⊎ (Operator (get_or text i 0) → ⊥) → i < length text
            → ((j : ℕ) → length text ≤ j + fuel → j ≤ length text → CutFrom j) → CutFrom i
        byte (inl o) k rest =
            let s = spelled {C = C} (get_or text i 0) o in
            let r = rest (i + 1) (omega arith) (omega arith) in
            record { tokens = placed i s.0 ∷ r.tokens; ending = r.ending; is = an_operator k s.1 r.is }
        byte (inr o) k rest = atom (reading text i) refl k o rest

        go : (i < length text) ⊎ (length text ≤ i) → ((j : ℕ) → length text ≤ j + fuel → j ≤ length text → CutFrom j) → CutFrom i
        go (inl k) rest = byte (cases_operator (get_or text i 0)) k rest
        go (inr k) rest = record { tokens = []; ending = text_ends i; is = no_more (omega arith) }

    pub cut_is : (ts : List (Placed C)) (e : Ending) → Tokens reading text 0 ts e → tokens_from reading text text 0 0 ≡ (ts, e)
    cut_is ts e d = tokens_before d

    pub cut_of_text : Tokens reading text 0 (tokens_from reading text text 0 0).0 (tokens_from reading text text 0 0).1
    cut_of_text =
        let c : CutFrom 0 = cut_from (length text) 0 (omega arith) (omega arith) in
        subst (λ z. Tokens reading text 0 z.0 z.1) (sym (cut_is c.tokens c.ending c.is)) c.is
