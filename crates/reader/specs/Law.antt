use Rattle.std.specs.Prelude.{◌≡◌, ℕ, ◌<◌, ◌≤◌, ◌⊎◌, ◌↔◌, List, length, Ok, Err, Result}
use Rattle.kinds.specs.declared.Atom.{Atom}
use Rattle.kinds.specs.declared.Refused.{Refused}
use Rattle.kinds.specs.declared.Refusal.TheVariants.{TextLength, MemoryTooShort, PatternTooLarge}
use Rattle.trees.specs.Listing.{Tree, leaves, listing}
use Rattle.reader.specs.Tokens.{Placed, Ending, text_ends, Tokens}
use Rattle.reader.specs.Grammar.{Pattern}
use Rattle.reader.specs.Faults.{Shallow, Fault}
use Rattle.reader.specs.Outcome.{Lent}

-- The outcome in the subject's words.

-- The text's length and the memory are as they must be.
pub record Ready (text : List ℕ) (lent : Lent) : Type 0 where
  pub some_text : 1 ≤ length text
  pub short_text : length text ≤ 1024
  pub nodes : 255 ≤ lent.nodes
  pub classes : 63 ≤ lent.classes
  pub groups : 32 ≤ lent.groups

module _ {C : Type 0} (reading : List ℕ → ℕ → Result (Atom C) Refused) (text : List ℕ) where
  -- The text is a pattern of this tree: it is cut into tokens to its end, the grammar derives the tree
  -- from them, and no more than 32 groups are open together.
  pub record Written (t : Tree C) : Type 0 where
    pub tokens : List (Placed C)
    pub cut : Tokens reading text 0 tokens (text_ends (length text))
    pub derived : Pattern tokens t
    pub shallow : Shallow tokens

  -- What is wrong with a call: its text's length, the memory, the first fault among the tokens, or, only
  -- when all else is right, the size of the pattern.
  pub data Refuses (lent : Lent) : Refused → Type 0 where
    text_length : (length text ≡ 0) ⊎ (1024 < length text) → Refuses lent (record { refusal = TextLength; place = 0 })
    short_memory : 1 ≤ length text → length text ≤ 1024 → (lent.nodes < 255) ⊎ ((lent.classes < 63) ⊎ (lent.groups < 32))
        → Refuses lent (record { refusal = MemoryTooShort; place = 0 })
    in_tokens : {f : Refused} (ts : List (Placed C)) (e : Ending) → Ready text lent → Tokens reading text 0 ts e → Fault ts e f
        → Refuses lent f
    too_large : (t : Tree C) → Ready text lent → Written t → (63 < length (leaves t)) ⊎ (255 < length (listing t))
        → Refuses lent (record { refusal = PatternTooLarge; place = length text })

  -- A call accepts exactly the patterns within the limits, with their tree, and refuses exactly what is
  -- wrong; a text has its tokens in one way, and they are a pattern of one tree at most.
  pub record ReadsPatterns (lent : Lent) (r : Result (Tree C) Refused) : Type 0 where
    pub accepted : (t : Tree C) → (r ≡ Ok t) ↔ (Ready text lent × Written t × (length (leaves t) ≤ 63) × (length (listing t) ≤ 255))
    pub refused : (f : Refused) → (r ≡ Err f) ↔ Refuses lent f
    pub one_cut : (ts us : List (Placed C)) (d e : Ending) → Tokens reading text 0 ts d → Tokens reading text 0 us e → (ts ≡ us) × (d ≡ e)
    pub one_tree : (ts : List (Placed C)) (s t : Tree C) → Pattern ts s → Pattern ts t → s ≡ t
