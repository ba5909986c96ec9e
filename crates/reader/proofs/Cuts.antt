use Rattle.std.proofs.Common.{◌≡◌, ℕ, zero, suc, ◌+◌, ◌-◌, ◌<◌, ◌≤◌, Bool, true, false, cond, eqb, List, [], ◌∷◌, length, get_or, drop, Ok, Err, Result, ap, ◌∙◌, subst, arith}
use Rattle.std.proofs.lemmas.List.{drop_more, drop_all}
use Rattle.kinds.specs.declared.Atom.{Atom}
use Rattle.kinds.specs.declared.Refused.{Refused}
use Rattle.kinds.specs.Atoms.{Within}
use Rattle.trees.specs.declared.Postfix.TheVariants.{Star, Plus, Optional}
use Rattle.reader.specs.declared.token.Token.{Token}
use Rattle.reader.specs.declared.token.Token.TheVariants.{Open, Close, Bar, Repeat}
use Rattle.reader.specs.declared.token.Cut.{Cut}
use Rattle.reader.specs.Tokens.{Placed, placed, Ending, text_ends, unreadable, atom_cut, operator_cut, cut_at, with_cut, tokens_from}

module _ {C : Type 0} (reading : List ℕ → ℕ → Result (Atom C) Refused) (text : List ℕ) where
  -- The tokens from a place of the text on.
  abbrev pub tokens_at : ℕ → List (Placed C) × Ending
  tokens_at i = tokens_from reading text (drop i text) i 0

  -- Bytes of a token before are passed over.
  tokens_skip : (k i : ℕ) → i + k ≤ length text → tokens_from reading text (drop i text) i k ≡ tokens_at (i + k)
  unfolding tokens_from
  tokens_skip zero i h = let z : i + 0 ≡ i = omega arith in rw z
  tokens_skip (suc k) i h =
      let e : drop i text ≡ get_or text i 0 ∷ drop (i + 1) text = drop_more text i 0 (omega arith) in
      let z : i + 1 + k ≡ i + suc k = omega arith in
      ap (λ l. tokens_from reading text l i (suc k)) e ∙ tokens_skip k (i + 1) (omega arith) ∙ ap tokens_at z

  tokens_next : (i : ℕ) → i < length text
      → tokens_at i ≡ with_cut reading text i (λ k. tokens_from reading text (drop (i + 1) text) (i + 1) k) (cut_at reading text i (get_or text i 0))
  unfolding tokens_from
  tokens_next i h = ap (λ l. tokens_from reading text l i 0) (drop_more text i 0 h)

  pub tokens_end : tokens_at (length text) ≡ ([], text_ends (length text))
  unfolding tokens_from
  tokens_end = ap (λ l. tokens_from reading text l (length text) 0) (drop_all (length text) text (omega arith))

  -- A token has at least one byte and ends within the text, as an atom does.
  abbrev pub Sized : ℕ → Result (Cut C) Refused → Type 0
  Sized i (Ok c) = (1 ≤ c.length) × (i + c.length ≤ length text)
  Sized i (Err f) = Unit {0}

  atom_sized : (i : ℕ) (r : Result (Atom C) Refused) → Within text i r → Sized i (atom_cut r)
  atom_sized i (Ok a) w = w
  atom_sized i (Err f) w = tt

  operator_sized : (i : ℕ) (b : Bool) (x : Token C) (r : Result (Cut C) Refused) → i < length text → Sized i r → Sized i (cond b (operator_cut x) r)
  operator_sized i true x r h s = (omega arith, omega arith)
  operator_sized i false x r h s = s

  cut_sized : (i b : ℕ) → i < length text → Within text i (reading text i) → Sized i (cut_at reading text i b)
  cut_sized i b h w =
      let atom = atom_sized i (reading text i) w in
      let six = operator_sized i (eqb b 63) (Repeat Optional) _ h atom in
      let five = operator_sized i (eqb b 43) (Repeat Plus) _ h six in
      let four = operator_sized i (eqb b 42) (Repeat Star) _ h five in
      let three = operator_sized i (eqb b 124) Bar _ h four in
      operator_sized i (eqb b 40) Open _ h (operator_sized i (eqb b 41) Close _ h three)

  pub cut_inside : (i : ℕ) (c : Cut C) → i < length text → Within text i (reading text i) → cut_at reading text i (get_or text i 0) ≡ Ok c
      → Sized i (Ok c)
  cut_inside i c h w e = subst (Sized i) e (cut_sized i (get_or text i 0) h w)

  -- The tokens from a place on, when one is cut there, and when none can be.
  pub tokens_cut : (i : ℕ) (c : Cut C) → i < length text → cut_at reading text i (get_or text i 0) ≡ Ok c → Sized i (Ok c)
      → tokens_at i ≡ (placed i c.token ∷ (tokens_at (i + c.length)).0, (tokens_at (i + c.length)).1)
  tokens_cut i c h e s =
      let l = s.0 in
      let m = s.1 in
      let far : i + 1 + (c.length - 1) ≡ i + c.length = omega arith in
      let skip = tokens_skip (c.length - 1) (i + 1) (omega arith) ∙ ap tokens_at far in
      tokens_next i h
      ∙ ap (with_cut reading text i (λ k. tokens_from reading text (drop (i + 1) text) (i + 1) k)) e
      ∙ ap (λ z. (placed i c.token ∷ z.0, z.1)) skip

  pub tokens_stuck : (i : ℕ) (f : Refused) → i < length text → cut_at reading text i (get_or text i 0) ≡ Err f
      → tokens_at i ≡ ([], unreadable f)
  tokens_stuck i f h e =
      tokens_next i h ∙ ap (with_cut reading text i (λ k. tokens_from reading text (drop (i + 1) text) (i + 1) k)) e
