use Rattle.std.specs.Prelude.{ℕ, Bool, cond, ◌||◌, List, [], length, Ok, Err, Result, ◌==◌, nat_lt}
use Rattle.std.proofs.Math.Option.{Option, some, none}
use Rattle.kinds.specs.declared.Atom.{Atom}
use Rattle.kinds.specs.declared.Refused.{Refused}
use Rattle.kinds.specs.declared.Refusal.{Refusal}
use Rattle.kinds.specs.declared.Refusal.TheVariants.{TextLength, MemoryTooShort, PatternTooLarge}
use Rattle.kinds.specs.Atoms.{refused_at}
use Rattle.trees.specs.Listing.{Tree, leaves, listing}
use Rattle.reader.specs.Tokens.{Placed, Ending, tokens_from}
use Rattle.reader.specs.Machine.{wanted, run}

-- The outcome of a call, computed as the program does.

-- How much memory a call is lent: node records, classes, group records.
pub record Lent : Type 0 where
  pub nodes : ℕ
  pub classes : ℕ
  pub groups : ℕ

-- Why a call is turned down before it reads and touches anything.
abbrev pub early : ℕ → Lent → Option Refusal
early n lent =
    cond (n == 0 || nat_lt 1024 n) (some TextLength)
    (cond (nat_lt lent.nodes 255 || (nat_lt lent.classes 63 || nat_lt lent.groups 32)) (some MemoryTooShort) none)

module _ {C : Type 0} where
  abbrev pub is_too_large : Tree C → Bool
  is_too_large t = nat_lt 63 (length (leaves t)) || nat_lt 255 (length (listing t))

  abbrev pub limited : ℕ → Result (Tree C) Refused → Result (Tree C) Refused
  limited n (Ok t) = cond (is_too_large t) (refused_at PatternTooLarge n) (Ok t)
  limited n (Err f) = Err f

  -- The outcome of reading a text of which these are the tokens and the ending.
  abbrev pub outcome_of : ℕ → List (Placed C) × Ending → Result (Tree C) Refused
  outcome_of n tokens = limited n (run 32 tokens.0 tokens.1 [] none wanted)

  abbrev pub unless : Option Refusal → Result (Tree C) Refused → Result (Tree C) Refused
  unless (some why) r = refused_at why 0
  unless none r = r

  -- The outcome of a call: the pattern's tree, or the refusal.
  abbrev pub outcome : (List ℕ → ℕ → Result (Atom C) Refused) → List ℕ → Lent → Result (Tree C) Refused
  outcome reading text lent = unless (early (length text) lent) (outcome_of (length text) (tokens_from reading text text 0 0))
