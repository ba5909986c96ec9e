use Rattle.std.proofs.Common.{◌≡◌, ℕ, ◌-◌, ◌<◌, ◌≤◌, Bool, true, false, List, [], ◌++◌, length, take, replicate, Ok, Err, Result, sym, refl, ap, ◌∙◌, arith, take_all}
use mathlib.Core.Option.{some, none}
use Rattle.std.proofs.lemmas.Bool.Decides.{nat_tests}
use Rattle.std.proofs.lemmas.List.{take-append-le}
use Rattle.std.specs.Result.{ResultUnwrapsOrElse}
use Rattle.stack.specs.Lent.{cleared_from}
use Rattle.kinds.specs.declared.Atom.{Atom}
use Rattle.kinds.specs.declared.Refused.{Refused}
use Rattle.kinds.specs.declared.Refusal.{Refusal}
use Rattle.kinds.specs.declared.Refusal.TheVariants.{PatternTooLarge}
use Rattle.kinds.specs.Atoms.{Within}
use Rattle.trees.specs.declared.Node.{Node}
use Rattle.trees.specs.Nodes.{cleared_node}
use Rattle.trees.specs.Listing.{Tree, leaves, listing}
use Rattle.trees.proofs.Listing.{listing_tells}
use Rattle.reader.specs.declared.records.Counts.{Counts}
use Rattle.reader.specs.declared.records.Group.{Group}
use Rattle.reader.specs.Tokens.{tokens_from}
use Rattle.reader.specs.Machine.{wanted, run}
use Rattle.reader.specs.Outcome.{early, is_too_large, limited}
use Rattle.reader.specs.Call.{cleared_group, counts_of, counted, nodes_of, classes_of, lent_of, ReadCall}
use Rattle.reader.specs.Writer.{limited_counts, used_by, Begins, EndPictured}
use Rattle.reader.proofs.Laws.{reads_patterns}

-- From what the reading leaves to what the call promises.

-- Memory whose first places begin with a list, cleared behind it.
begins_cleared : {X : Type 0} (blank : X) (slots rest l before : List X) → length l ≤ length slots → length (slots ++ rest) ≡ length before
    → Begins slots l → cleared_from (length l) blank (slots ++ rest) ≡ l ++ replicate (length before - length l) blank
begins_cleared blank slots rest l before h long b =
    let front : take (length l) (slots ++ rest) ≡ l = take-append-le (length l) slots rest h ∙ sym b ∙ take_all (length slots) l h in
    rw (front, long)

-- What is in use, told by what is taken out of the outcome.
pub used_is : (P : Counts → Type 0) → ((u : Counts) → P u → u ≡ record { nodes = 0; positions = 0 })
    → (o : Result Counts Refused) (u : Counts) → ResultUnwrapsOrElse o P u → u ≡ used_by o
used_is P zeros (Ok v) u h = h
used_is P zeros (Err f) u h = zeros u h

module _ {C : Type 0} (blank : C) (n : ℕ) (first beyond nodes : List Node) (given others classes : List C)
    (first_room : length first ≡ 255) (node_room : length (first ++ beyond) ≡ length nodes)
    (given_room : length given ≡ 63) (class_room : length (given ++ others) ≡ length classes) where
  -- What a call returns and leaves when its outcome is this.
  record Settled (o : Result (Tree C) Refused) (r : Result Counts Refused) : Type 0 where
    pub result : r ≡ counted o
    pub nodes_hold : cleared_from (used_by r).nodes cleared_node (first ++ beyond) ≡ nodes_of o ++ replicate (length nodes - length (nodes_of o)) cleared_node
    pub classes_hold : cleared_from (used_by r).positions blank (given ++ others) ≡ classes_of o ++ replicate (length classes - length (classes_of o)) blank

  settled_err : (f : Refused) (r : Result Counts Refused) → r ≡ Err f → Settled (Err f) r
  settled_err f r e = record { result = e; nodes_hold = rw (e, node_room); classes_hold = rw (e, class_room) }

  settled_ok : (t : Tree C) (r : Result Counts Refused) → r ≡ Ok (counts_of t)
      → length (leaves t) ≤ 63 → length (listing t) ≤ 255 → Begins first (listing t) → Begins given (leaves t) → Settled (Ok t) r
  settled_ok t r e h k a b =
      record {
        result = e;
        nodes_hold = rw e (begins_cleared cleared_node first beyond (listing t) nodes (omega (arith, k, first_room)) node_room a);
        classes_hold = rw e (begins_cleared blank given others (leaves t) classes (omega (arith, h, given_room)) class_room b);
      }

  settled_tree : (t : Tree C) (read r : Result Counts Refused) (b : Bool) → is_too_large t ≡ b
      → EndPictured (Ok t) read first given → r ≡ limited_counts n read → Settled (limited n (Ok t)) r
  settled_tree t read r true large h e =
      let f : Refused = record { refusal = PatternTooLarge; place = n } in
      let q : r ≡ Err f = e ∙ ap (limited_counts n) h.counts ∙ rw large in
      rw large (settled_err f r q)
  settled_tree t read r false fits h e =
      let q : r ≡ Ok (counts_of t) = e ∙ ap (limited_counts n) h.counts ∙ rw fits in
      let few : length (leaves t) ≤ 63 = grind (arith, nat_tests) in
      let small : length (listing t) ≤ 255 = grind (arith, nat_tests) in
      rw fits (settled_ok t r q few small h.listed h.leaves)

  settled : (o : Result (Tree C) Refused) (read r : Result Counts Refused) → EndPictured o read first given → r ≡ limited_counts n read
      → Settled (limited n o) r
  settled (Ok t) read r h e = settled_tree t read r (is_too_large t) refl h e
  settled (Err f) read r h e = settled_err f r (e ∙ ap (limited_counts n) h)

module _ {C : Type 0} (reading : List ℕ → ℕ → Result (Atom C) Refused) (cleared : C)
    (text : List ℕ) (nodes : List Node) (classes : List C) (groups : List Group)
    (within : (i : ℕ) → i < length text → Within text i (reading text i)) where
  -- A call that is turned down before reading.
  pub early_call : (why : Refusal) → early (length text) (lent_of nodes classes groups) ≡ some why
      → ReadCall reading cleared text nodes classes groups (Err (record { refusal = why; place = 0 })) nodes classes groups
  early_call why e =
      record {
        result = rw e;
        nodes_hold = rw e;
        classes_hold = rw e;
        groups_hold = rw e;
        law = reads_patterns reading text (lent_of nodes classes groups) within;
        telling = listing_tells;
      }

  abbrev pub ran : Result (Tree C) Refused
  ran = run 32 (tokens_from reading text text 0 0).0 (tokens_from reading text text 0 0).1 [] none wanted

  -- A call that reads.
  pub read_call : (read r : Result Counts Refused) (first beyond nodes_after : List Node) (given others classes_after : List C) (groups_after : List Group)
      → early (length text) (lent_of nodes classes groups) ≡ none
      → length first ≡ 255 → length (first ++ beyond) ≡ length nodes → length given ≡ 63 → length (given ++ others) ≡ length classes
      → EndPictured ran read first given → r ≡ limited_counts (length text) read
      → nodes_after ≡ cleared_from (used_by r).nodes cleared_node (first ++ beyond)
      → classes_after ≡ cleared_from (used_by r).positions cleared (given ++ others)
      → groups_after ≡ replicate (length groups) cleared_group
      → ReadCall reading cleared text nodes classes groups r nodes_after classes_after groups_after
  read_call read r first beyond nodes_after given others classes_after groups_after early_no first_room node_room given_room class_room h e ns cs gs =
      let s = settled cleared (length text) first beyond nodes given others classes first_room node_room given_room class_room ran read r h e in
      let whole : length groups ≡ length groups - 0 = omega arith in
      record {
        result = rw early_no s.result;
        nodes_hold = rw early_no (ns ∙ s.nodes_hold);
        classes_hold = rw early_no (cs ∙ s.classes_hold);
        groups_hold = rw early_no (gs ∙ ap (λ k. replicate k cleared_group) whole);
        law = reads_patterns reading text (lent_of nodes classes groups) within;
        telling = listing_tells;
      }
