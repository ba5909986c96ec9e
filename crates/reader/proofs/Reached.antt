use Rattle.std.specs.Prelude.{OnOk}
use Rattle.std.proofs.Common.{◌≡◌, ℕ, ◌+◌, ◌<◌, ◌≤◌, Bool, true, false, cond, eqb, ltb, List, [], ◌∷◌, length, get_or, Ok, Err, Result, sym, refl, ap, ◌∙◌, subst, arith}
use mathlib.Core.Option.{Option, none}
use Rattle.std.specs.Result.{MatchResult, IsErrAnd}
use Rattle.kinds.specs.declared.Atom.{Atom}
use Rattle.kinds.specs.declared.Refused.{Refused}
use Rattle.kinds.specs.declared.Refusal.{Refusal}
use Rattle.kinds.specs.declared.Refusal.TheVariants.{BaseWanted, TooManyGroups}
use Rattle.stack.proofs.Held.{same_then}
use Rattle.trees.specs.declared.Node.{Node}
use Rattle.trees.specs.Listing.{Tree, listing}
use Rattle.reader.specs.declared.records.Counts.{Counts}
use Rattle.reader.specs.declared.records.Group.{Group}
use Rattle.reader.specs.declared.records.Progress.{Progress}
use Rattle.reader.specs.declared.writer.Writer.{Writer}
use Rattle.reader.specs.declared.token.Token.{Token}
use Rattle.reader.specs.declared.token.Token.TheVariants.{Open, Close, Bar, Repeat, Atom as AnAtom}
use Rattle.reader.specs.declared.token.Cut.{Cut}
use Rattle.reader.specs.Tokens.{text_ends, cut_at}
use Rattle.reader.specs.Machine.{Part, wanted, Frame, Turn, goes, stops, step, carry, finish, run}
use Rattle.reader.specs.Desk.{Desk, fresh, SameMemory}
use Rattle.reader.specs.Writer.{joined_count, pattern_count, group_count, started_progress, branch_start, piece_end, outer_progress, closed_progress, outer_groups, atom_progress, group_nodes, on_desk, wrote, ended, pattern_nodes, Begins, EndPictured}
use Rattle.reader.proofs.Cuts.{tokens_at, Sized, tokens_cut, tokens_stuck, tokens_end}
use Rattle.reader.proofs.Pending.{Pictured, TurnPictured}
use Rattle.reader.proofs.Pictured.{start_pictured, step_pictured, end_pictured}

-- What the loop over the tokens keeps.

-- The same lent memory, by way of a third writer.
pub same_memory_then : {C : Type 0} (u v w : Writer C) → SameMemory u v → SameMemory v w → SameMemory u w
same_memory_then u v w p q =
    record {
      nodes = same_then _ _ _ p.nodes q.nodes;
      classes = same_then _ _ _ p.classes q.classes;
      stack = p.stack ∙ q.stack;
      groups = same_then _ _ _ p.groups q.groups;
    }

-- What a result was before `map_err`, told by what it is then.
module _ {X E D : Type 0} (P : E → D → Type 0) where
  pub ok_before : (r : Result X E) (q : Result X D) (x : X) → MatchResult r (λ y. q ≡ Ok y) (λ e. IsErrAnd q (P e)) → q ≡ Ok x → r ≡ Ok x
  ok_before (Ok y) q x h e = let z : y ≡ x = cc in ap Ok z
  ok_before (Err d) (Ok y) x h e = absurd h
  ok_before (Err d) (Err f) x h e = let z : ◌≡◌ {A = ℕ} 0 1 = cc in absurd (omega arith)

  pub err_before : (r : Result X E) (q : Result X D) (f : D) → MatchResult r (λ y. q ≡ Ok y) (λ e. IsErrAnd q (P e)) → q ≡ Err f
      → (e : E) × (r ≡ Err e) × P e f
  err_before (Ok y) q f h e = let z : ◌≡◌ {A = ℕ} 0 1 = cc in absurd (omega arith)
  err_before (Err d) (Ok y) f h e = absurd h
  err_before (Err d) (Err g) f h e = let z : g ≡ f = cc in (d, refl, subst (P d) z h)

-- A turn adds two nodes and one position at most.
abbrev Grown : Progress → Progress → Type 0
Grown p q = (q.nodes ≤ p.nodes + 2) × (q.positions ≤ p.positions + 1)

joined_grown : (left n : ℕ) → joined_count left n ≤ n + 1
joined_grown left n = go (eqb left 0)
  where
    go : (b : Bool) → cond b n (n + 1) ≤ n + 1
    go true = omega arith
    go false = omega arith

started_grown : (p : Progress) → (started_progress p).nodes ≤ p.nodes + 1
started_grown p = go p.wanting
  where
    go : (b : Bool) → (cond b p (piece_end (joined_count p.sequence p.nodes) p.positions p.choice (joined_count p.sequence p.nodes))).nodes ≤ p.nodes + 1
    go true = omega arith
    go false = joined_grown p.sequence p.nodes

pattern_grown : (p : Progress) → pattern_count p ≤ p.nodes + 2
pattern_grown p = omega (arith, joined_grown p.choice (joined_count p.sequence p.nodes), joined_grown p.sequence p.nodes)

abbrev AtMost : ℕ → Result ℕ Refusal → Type 0
AtMost n (Ok m) = m ≤ n
AtMost n (Err why) = Unit {0}

group_grown : (p : Progress) → AtMost (p.nodes + 2) (group_count p)
group_grown p = go p.wanting (eqb p.choice 0)
  where
    go : (b c : Bool) → AtMost (p.nodes + 2) (cond b (cond c (Ok (p.nodes + 1)) (Err BaseWanted)) (Ok (pattern_count p)))
    go true true = omega arith
    go true false = tt
    go false c = pattern_grown p

module _ {C : Type 0} where
  grown_if : (p q : Progress) (b : Bool) (why : Refusal) (nodes : List Node) (classes : List C) (gs : List Group) (d : Desk C) → Grown p q
      → on_desk nodes classes gs (cond b (Ok q) (Err why)) ≡ Ok d → Grown p d.progress
  grown_if p q true why nodes classes gs d m e = let z : q ≡ d.progress = cc in subst (Grown p) z m
  grown_if p q false why nodes classes gs d m e = let z : ◌≡◌ {A = ℕ} 0 1 = cc in absurd (omega arith)

  grown_unless : (p q : Progress) (b : Bool) (why : Refusal) (nodes : List Node) (classes : List C) (gs : List Group) (d : Desk C) → Grown p q
      → on_desk nodes classes gs (cond b (Err why) (Ok q)) ≡ Ok d → Grown p d.progress
  grown_unless p q true why nodes classes gs d m e = let z : ◌≡◌ {A = ℕ} 0 1 = cc in absurd (omega arith)
  grown_unless p q false why nodes classes gs d m e = let z : q ≡ d.progress = cc in subst (Grown p) z m

  grown_outer : (g : Group) (p : Progress) (r : Result ℕ Refusal) (nodes : List Node) (classes : List C) (gs : List Group) (d : Desk C)
      → AtMost (p.nodes + 2) r → on_desk nodes classes gs (outer_progress g p r) ≡ Ok d → Grown p d.progress
  grown_outer g p (Ok n) nodes classes gs d m e =
      let z : piece_end n p.positions g.choice g.sequence ≡ d.progress = cc in subst (Grown p) z (m, omega arith)
  grown_outer g p (Err why) nodes classes gs d m e = let z : ◌≡◌ {A = ℕ} 0 1 = cc in absurd (omega arith)

  grown : (i : ℕ) (x : Token C) (d d' : Desk C) → wrote i x d ≡ Ok d' → Grown d.progress d'.progress
  grown i Open d d' e =
      let p = d.progress in
      grown_if p (branch_start p (started_progress p).nodes 0) (ltb (length d.groups) 32) TooManyGroups _ _ _ d'
      (omega (arith, started_grown p), omega arith) e
  grown i Close d d' e = go d.groups e
    where
      go : (gs : List Group) → on_desk (group_nodes d.progress d.nodes) d.classes (outer_groups gs) (closed_progress gs d.progress) ≡ Ok d'
          → Grown d.progress d'.progress
      go [] e = let z : ◌≡◌ {A = ℕ} 0 1 = cc in absurd (omega arith)
      go (g ∷ gs) e = grown_outer g d.progress (group_count d.progress) _ _ _ d' (group_grown d.progress) e
  grown i Bar d d' e =
      let p = d.progress in
      grown_unless p (branch_start p (pattern_count p) (pattern_count p)) p.wanting BaseWanted _ _ _ d' (pattern_grown p, omega arith) e
  grown i (Repeat k) d d' e =
      let p = d.progress in
      grown_unless p (piece_end (p.nodes + 1) p.positions p.choice p.sequence) p.wanting BaseWanted _ _ _ d' (omega arith, omega arith) e
  grown i (AnAtom c) d d' e =
      let p = d.progress in
      let z : atom_progress p ≡ d'.progress = cc in
      subst (Grown p) z (omega (arith, started_grown p), omega arith)

-- A turn of the program tells the turn of the machine.
module _ {C : Type 0} where
  record Goes (n : Turn C) (d : Desk C) : Type 0 where
    pub st : List (Frame C)
    pub alts : Option (Tree C)
    pub part : Part C
    pub is : n ≡ goes st alts part
    pub pictured : Pictured st alts part d

  turn_goes : (n : Turn C) (o : Result (Desk C) Refusal) (d : Desk C) → TurnPictured n o → o ≡ Ok d → Goes n d
  turn_goes (goes st alts part) (Ok x) d h e =
      let z : x ≡ d = cc in record { st = st; alts = alts; part = part; is = refl; pictured = subst (Pictured st alts part) z h }
  turn_goes (goes st alts part) (Err w) d h e = absurd h
  turn_goes (stops why) (Ok x) d h e = absurd h
  turn_goes (stops why) (Err w) d h e = let z : ◌≡◌ {A = ℕ} 0 1 = cc in absurd (omega arith)

  turn_stops : (n : Turn C) (o : Result (Desk C) Refusal) (why : Refusal) → TurnPictured n o → o ≡ Err why → n ≡ stops why
  turn_stops (goes st alts part) (Ok x) why h e = let z : ◌≡◌ {A = ℕ} 0 1 = cc in absurd (omega arith)
  turn_stops (goes st alts part) (Err w) why h e = absurd h
  turn_stops (stops v) (Ok x) why h e = absurd h
  turn_stops (stops v) (Err w) why h e = let z : v ≡ why = cc in ap stops z

module _ {C : Type 0} (reading : List ℕ → ℕ → Result (Atom C) Refused) (text : List ℕ) where
  abbrev pub run_at : ℕ → List (Frame C) → Option (Tree C) → Part C → Result (Tree C) Refused
  run_at i st alts part = run 32 (tokens_at reading text i).0 (tokens_at reading text i).1 st alts part

  -- Place i is reached: the desk pictures a state from which the rest of the tokens leads where all lead.
  pub record Reached (i : ℕ) (d : Desk C) : Type 0 where
    pub st : List (Frame C)
    pub alts : Option (Tree C)
    pub part : Part C
    pub pictured : Pictured st alts part d
    pub leads : run_at i st alts part ≡ run_at 0 [] none wanted
    pub inside : i ≤ length text
    pub nodes : d.progress.nodes ≤ i + i
    pub positions : d.progress.positions ≤ i

  pub reached_start : (nodes : List Node) (classes : List C) → Reached 0 (fresh nodes classes)
  reached_start nodes classes =
      record {
        st = [];
        alts = none;
        part = wanted;
        pictured = start_pictured nodes classes;
        leads = refl;
        inside = omega arith;
        nodes = omega arith;
        positions = omega arith;
      }

  run_cut : (i : ℕ) (c : Cut C) (st : List (Frame C)) (alts : Option (Tree C)) (part : Part C)
      → i < length text → cut_at reading text i (get_or text i 0) ≡ Ok c → Sized reading text i (Ok c)
      → run_at i st alts part ≡ carry (step 32 i c.token st alts part) i (λ st' alts' part'. run_at (i + c.length) st' alts' part')
  unfolding run
  run_cut i c st alts part h e s = ap (λ z. run 32 z.0 z.1 st alts part) (tokens_cut reading text i c h e s)

  pub reached_next : (i : ℕ) (d d' : Desk C) (c : Cut C) → Reached i d → i < length text
      → cut_at reading text i (get_or text i 0) ≡ Ok c → Sized reading text i (Ok c) → wrote i c.token d ≡ Ok d'
      → Reached (i + c.length) d'
  reached_next i d d' c r h e s w =
      let g = turn_goes (step 32 i c.token r.st r.alts r.part) (wrote i c.token d) d' (step_pictured i c.token r.st r.alts r.part d r.pictured) w in
      let m = grown i c.token d d' w in
      let one = s.0 in
      let two = m.0 in
      let three = m.1 in
      let four = r.nodes in
      let five = r.positions in
      record {
        st = g.st;
        alts = g.alts;
        part = g.part;
        pictured = g.pictured;
        leads = sym (run_cut i c r.st r.alts r.part h e s ∙ ap (λ n. carry n i (λ st' alts' part'. run_at (i + c.length) st' alts' part')) g.is) ∙ r.leads;
        inside = s.1;
        nodes = omega arith;
        positions = omega arith;
      }

  pub reached_refused : (i : ℕ) (d : Desk C) (c : Cut C) (why : Refusal) → Reached i d → i < length text
      → cut_at reading text i (get_or text i 0) ≡ Ok c → Sized reading text i (Ok c) → wrote i c.token d ≡ Err why
      → run_at 0 [] none wanted ≡ Err (record { refusal = why; place = i })
  reached_refused i d c why r h e s w =
      let t = turn_stops (step 32 i c.token r.st r.alts r.part) (wrote i c.token d) why (step_pictured i c.token r.st r.alts r.part d r.pictured) w in
      sym r.leads ∙ run_cut i c r.st r.alts r.part h e s ∙ ap (λ n. carry n i (λ st' alts' part'. run_at (i + c.length) st' alts' part')) t

  pub reached_stuck : (i : ℕ) (d : Desk C) (f : Refused) → Reached i d → i < length text
      → cut_at reading text i (get_or text i 0) ≡ Err f → run_at 0 [] none wanted ≡ Err f
  unfolding run
  reached_stuck i d f r h e = sym r.leads ∙ ap (λ z. run 32 z.0 z.1 r.st r.alts r.part) (tokens_stuck reading text i f h e)

  pub reached_end : (i : ℕ) (d : Desk C) → Reached i d → length text ≤ i
      → EndPictured (run_at 0 [] none wanted) (ended i d.groups d.progress) (pattern_nodes d.progress d.nodes) d.classes
  unfolding run
  reached_end i d r h =
      let a = r.inside in
      let z : length text ≡ i = omega arith in
      let e : run_at i r.st r.alts r.part ≡ finish (text_ends i) r.st r.alts r.part =
      ap (λ t. run 32 t.0 t.1 r.st r.alts r.part) (subst (λ n. tokens_at reading text n ≡ ([], text_ends n)) z (tokens_end reading text)) in
      subst (λ o. EndPictured o (ended i d.groups d.progress) (pattern_nodes d.progress d.nodes) d.classes)
      (sym e ∙ r.leads) (end_pictured i r.st r.alts r.part d r.pictured)

-- The end, told by what the last step promises: the memory is as it should be when it accepts.
pub end_from : {C : Type 0} (o : Result (Tree C) Refused) (q r : Result Counts Refused) (kept nodes : List Node) (classes : List C)
    → EndPictured o q kept classes → r ≡ q → OnOk r (nodes ≡ kept) → EndPictured o r nodes classes
end_from (Err f) q r kept nodes classes h e n = e ∙ h
end_from (Ok t) q (Ok x) kept nodes classes h e n =
    record { counts = e ∙ h.counts; listed = subst (λ z. Begins z (listing t)) (sym n) h.listed; leaves = h.leaves }
end_from (Ok t) q (Err f) kept nodes classes h e n =
    let bad = e ∙ h.counts in
    let z : ◌≡◌ {A = ℕ} 0 1 = cc in
    absurd (omega arith)
