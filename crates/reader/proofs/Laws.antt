use Rattle.std.proofs.Common.{◌≡◌, ℕ, ◌<◌, ◌≤◌, ◌⊎◌, List, [], length, Ok, Err, Result, sym, refl, ap, ◌∙◌, subst, inl, inr, arith}
use mathlib.Core.Option.{some, none}
use Rattle.std.proofs.lemmas.Bool.{cases_lt}
use Rattle.std.proofs.lemmas.Bool.Decides.{nat_tests}
use Rattle.kinds.specs.declared.Atom.{Atom}
use Rattle.kinds.specs.declared.Refused.{Refused}
use Rattle.kinds.specs.declared.Refusal.TheVariants.{TextLength, MemoryTooShort, PatternTooLarge}
use Rattle.kinds.specs.Atoms.{refused_at, Within}
use Rattle.trees.specs.Listing.{Tree, leaves, listing}
use Rattle.reader.specs.Tokens.{Placed, Ending, text_ends, Tokens, tokens_from}
use Rattle.reader.specs.Grammar.{Pattern}
use Rattle.reader.specs.Machine.{wanted, run}
use Rattle.reader.specs.Outcome.{Lent, early, limited, outcome_of, unless, outcome}
use Rattle.reader.specs.Law.{Ready, Written, Refuses, text_length, short_memory, in_tokens, too_large, ReadsPatterns}
use Rattle.reader.proofs.Sound.{sound, accepts_ended}
use Rattle.reader.proofs.Complete.{Room, accepts}
use Rattle.reader.proofs.Depth.{room_of, shallow_room, room_shallow, room_any}
use Rattle.reader.proofs.Refusal.{fault_out, fault_in}
use Rattle.reader.proofs.Lexed.{ends_well, cut_is, cut_of_text}

-- The law of reading.

-- The test before reading tells what is wrong, if anything is.
abbrev pub WrongLength : ℕ → Type 0
WrongLength n = (n ≡ 0) ⊎ (1024 < n)

abbrev pub ShortMemory : Lent → Type 0
ShortMemory lent = (lent.nodes < 255) ⊎ ((lent.classes < 63) ⊎ (lent.groups < 32))

pub early_length : (n : ℕ) (lent : Lent) → WrongLength n → early n lent ≡ some TextLength
early_length n lent h = grind (arith, nat_tests)

pub early_memory : (n : ℕ) (lent : Lent) → 1 ≤ n → n ≤ 1024 → ShortMemory lent → early n lent ≡ some MemoryTooShort
early_memory n lent h k m = grind (arith, nat_tests)

pub early_none : (text : List ℕ) (lent : Lent) → Ready text lent → early (length text) lent ≡ none
early_none text lent r =
    let h = r.some_text in
    let k = r.short_text in
    let a = r.nodes in
    let b = r.classes in
    let c = r.groups in
    grind (arith, nat_tests)

-- One of the three holds.
data Start (text : List ℕ) (lent : Lent) : Type 0 where
  wrong_length : WrongLength (length text) → Start text lent
  lacks_memory : 1 ≤ length text → length text ≤ 1024 → ShortMemory lent → Start text lent
  starts : Ready text lent → Start text lent

start : (text : List ℕ) (lent : Lent) → Start text lent
start text lent = go (cases_lt (length text) 1) (cases_lt 1024 (length text)) (cases_lt lent.nodes 255) (cases_lt lent.classes 63) (cases_lt lent.groups 32)
  where
    go : (length text < 1) ⊎ (1 ≤ length text) → (1024 < length text) ⊎ (length text ≤ 1024)
        → (lent.nodes < 255) ⊎ (255 ≤ lent.nodes) → (lent.classes < 63) ⊎ (63 ≤ lent.classes) → (lent.groups < 32) ⊎ (32 ≤ lent.groups)
        → Start text lent
    go (inl h) b c d e = wrong_length (inl (omega arith))
    go (inr h) (inl b) c d e = wrong_length (inr b)
    go (inr h) (inr b) (inl c) d e = lacks_memory h b (inl c)
    go (inr h) (inr b) (inr c) (inl d) e = lacks_memory h b (inr (inl d))
    go (inr h) (inr b) (inr c) (inr d) (inl e) = lacks_memory h b (inr (inr e))
    go (inr h) (inr b) (inr c) (inr d) (inr e) = starts (record { some_text = h; short_text = b; nodes = c; classes = d; groups = e })

module _ {C : Type 0} where
  abbrev TooLarge : Tree C → Type 0
  TooLarge t = (63 < length (leaves t)) ⊎ (255 < length (listing t))

  limited_fits : (n : ℕ) (t : Tree C) → length (leaves t) ≤ 63 → length (listing t) ≤ 255 → limited n (Ok t) ≡ Ok t
  limited_fits n t h k = grind (arith, nat_tests)

  limited_large : (n : ℕ) (t : Tree C) → TooLarge t → limited n (Ok t) ≡ refused_at PatternTooLarge n
  limited_large n t h = grind (arith, nat_tests)

module _ {C : Type 0} (reading : List ℕ → ℕ → Result (Atom C) Refused) (text : List ℕ) (lent : Lent)
    (within : (i : ℕ) → i < length text → Within text i (reading text i)) where
  abbrev tokens : List (Placed C) × Ending
  tokens = tokens_from reading text text 0 0

  ran : (ts : List (Placed C)) (e : Ending) → Tokens reading text 0 ts e → run 32 tokens.0 tokens.1 [] none wanted ≡ run 32 ts e [] none wanted
  ran ts e d = ap (λ z. run 32 z.0 z.1 [] none wanted) (cut_is reading text within ts e d)

  run_written : (t : Tree C) → Written reading text t → run 32 tokens.0 tokens.1 [] none wanted ≡ Ok t
  run_written t w =
      ran w.tokens (text_ends (length text)) w.cut
      ∙ accepts 32 w.tokens (length text) t w.derived (shallow_room w.tokens w.shallow)

  written_run : (t : Tree C) → run 32 tokens.0 tokens.1 [] none wanted ≡ Ok t → Written reading text t
  written_run t q =
      let end = accepts_ended 32 tokens.0 tokens.1 [] none wanted t q in
      let cut : Tokens reading text 0 tokens.0 (text_ends end.0) =
      subst (λ z. Tokens reading text 0 tokens.0 z) end.1 (cut_of_text reading text within) in
      record {
        tokens = tokens.0;
        cut = subst (λ n. Tokens reading text 0 tokens.0 (text_ends n)) (ends_well reading text cut) cut;
        derived = sound 32 tokens.0 tokens.1 t q;
        shallow = room_shallow tokens.0 (room_of 32 tokens.0 tokens.1 [] none wanted t q);
      }

  when_ready : Ready text lent → (r : Result (Tree C) Refused) → run 32 tokens.0 tokens.1 [] none wanted ≡ r
      → outcome reading text lent ≡ limited (length text) r
  when_ready h r q =
      ap (λ z. unless z (outcome_of (length text) tokens)) (early_none text lent h) ∙ ap (λ z. limited (length text) z) q

  abbrev Accepted : Tree C → Type 0
  Accepted t = Ready text lent × Written reading text t × (length (leaves t) ≤ 63) × (length (listing t) ≤ 255)

  accepted_in : (t : Tree C) → Accepted t → outcome reading text lent ≡ Ok t
  accepted_in t h = when_ready h.0 (Ok t) (run_written t h.1) ∙ limited_fits (length text) t h.2 h.3

  refused_in : {f : Refused} → Refuses reading text lent f → outcome reading text lent ≡ Err f
  refused_in (text_length h) = ap (λ z. unless z (outcome_of (length text) tokens)) (early_length (length text) lent h)
  refused_in (short_memory h k m) = ap (λ z. unless z (outcome_of (length text) tokens)) (early_memory (length text) lent h k m)
  refused_in (in_tokens {f} ts e r d w) = when_ready r (Err f) (ran ts e d ∙ fault_in ts e f w)
  refused_in (too_large t r w l) = when_ready r (Ok t) (run_written t w) ∙ limited_large (length text) t l

  -- Every call is one or the other, so the outcome tells which.
  data Verdict : Type 0 where
    takes : (t : Tree C) → Accepted t → Verdict
    turns_down : (f : Refused) → Refuses reading text lent f → Verdict

  judged : Ready text lent → (t : Tree C) → Written reading text t → (length (leaves t) < 64) ⊎ (64 ≤ length (leaves t))
      → (length (listing t) < 256) ⊎ (256 ≤ length (listing t)) → Verdict
  judged r t w (inl h) (inl k) = takes t (r, w, omega arith, omega arith)
  judged r t w (inl h) (inr k) = turns_down (record { refusal = PatternTooLarge; place = length text }) (too_large t r w (inr (omega arith)))
  judged r t w (inr h) k = turns_down (record { refusal = PatternTooLarge; place = length text }) (too_large t r w (inl (omega arith)))

  read : Ready text lent → (o : Result (Tree C) Refused) → run 32 tokens.0 tokens.1 [] none wanted ≡ o → Verdict
  read r (Ok t) q = judged r t (written_run t q) (cases_lt (length (leaves t)) 64) (cases_lt (length (listing t)) 256)
  read r (Err f) q =
      turns_down f (in_tokens tokens.0 tokens.1 r (cut_of_text reading text within) (fault_out tokens.0 tokens.1 f q))

  verdict : Start text lent → Verdict
  verdict (wrong_length h) = turns_down (record { refusal = TextLength; place = 0 }) (text_length h)
  verdict (lacks_memory h k m) = turns_down (record { refusal = MemoryTooShort; place = 0 }) (short_memory h k m)
  verdict (starts r) = read r (run 32 tokens.0 tokens.1 [] none wanted) refl

  accepted_out : (t : Tree C) → outcome reading text lent ≡ Ok t → Verdict → Accepted t
  accepted_out t q (takes s h) = let p = accepted_in s h in let z : s ≡ t = cc in subst (λ y. Accepted y) z h
  accepted_out t q (turns_down f h) = let p = refused_in h in let z : ◌≡◌ {A = ℕ} 0 1 = cc in absurd (omega arith)

  refused_out : (f : Refused) → outcome reading text lent ≡ Err f → Verdict → Refuses reading text lent f
  refused_out f q (takes s h) = let p = accepted_in s h in let z : ◌≡◌ {A = ℕ} 0 1 = cc in absurd (omega arith)
  refused_out f q (turns_down g h) = let p = refused_in h in let z : g ≡ f = cc in subst (λ y. Refuses reading text lent y) z h

  cut_once : (ts us : List (Placed C)) (d e : Ending) → Tokens reading text 0 ts d → Tokens reading text 0 us e → (ts ≡ us) × (d ≡ e)
  cut_once ts us d e h k =
      let p = sym (cut_is reading text within ts d h) ∙ cut_is reading text within us e k in
      (ap (λ z. z.0) p, ap (λ z. z.1) p)

tree_once : {C : Type 0} (ts : List (Placed C)) (s t : Tree C) → Pattern ts s → Pattern ts t → s ≡ t
tree_once ts s t h k =
    let room : Room (length ts) 0 ts = room_any (length ts) 0 ts (omega arith) in
    let p = accepts (length ts) ts 0 s h room in
    let q = accepts (length ts) ts 0 t k room in
    cc

pub reads_patterns : {C : Type 0} (reading : List ℕ → ℕ → Result (Atom C) Refused) (text : List ℕ) (lent : Lent)
    → ((i : ℕ) → i < length text → Within text i (reading text i))
    → ReadsPatterns reading text lent (outcome reading text lent)
reads_patterns reading text lent within =
    let v = verdict reading text lent within (start text lent) in
    record {
      accepted = λ t. (λ q. accepted_out reading text lent within t q v, accepted_in reading text lent within t);
      refused = λ f. (λ q. refused_out reading text lent within f q v, refused_in reading text lent within);
      one_cut = cut_once reading text lent within;
      one_tree = tree_once;
    }
