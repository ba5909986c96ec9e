use Rattle.std.proofs.Common.{◌≡◌, ◌++◌, length, drop, sym, ap, ◌∙◌, arith, rules, eqb-true}
use borrow.Author.Tests.{eqb-false}
use Rattle.std.proofs.lemmas.List.{places, length-take-le}
use Rattle.kinds.specs.declared.Refusal.TheVariants.{TextLength, MemoryTooShort}
use Rattle.stack.specs.Lent.{cleared_from}
use Rattle.trees.specs.Nodes.{cleared_node}
use Rattle.reader.specs.Law.{Ready}
use Rattle.reader.specs.Call.{lent_of}
use Rattle.reader.specs.Writer.{used_by}
use Rattle.reader.proofs.Laws.{WrongLength, ShortMemory, early_length, early_memory, early_none}
use Rattle.reader.proofs.Called.{used_is, early_call, read_call}
use Rattle.reader.proofs.read.Goals as goal

pub returns-then-is_empty : goal.returns-then-is_empty
returns-then-is_empty g c =
    let text = c.args.text.now in
    let wrong : WrongLength (length text) = search (rules, eqb-true) in
    let l = lent_of c.args.nodes.now c.args.classes.now c.args.groups.now in
    rw c.at.ensures
    (early_call g.K.Kind.reading g.K.Kind.cleared text c.args.nodes.now c.args.classes.now c.args.groups.now
    (λ i h. g.met.K.Kind.within text i h) TextLength (early_length (length text) l wrong))

pub returns-then-nodes-lt-MAX_NODES : goal.returns-then-nodes-lt-MAX_NODES
returns-then-nodes-lt-MAX_NODES g c =
    let text = c.args.text.now in
    let l = lent_of c.args.nodes.now c.args.classes.now c.args.groups.now in
    let short : ShortMemory l = search rules in
    let some = eqb-false _ _ (sym c.is_empty.ensures ∙ c.if-is_empty.false) in
    rw c.at-then-nodes-lt-MAX_NODES.ensures
    (early_call g.K.Kind.reading g.K.Kind.cleared text c.args.nodes.now c.args.classes.now c.args.groups.now
    (λ i h. g.met.K.Kind.within text i h) MemoryTooShort
    (early_memory (length text) l (omega (arith, some)) c.if-text-gt-MAX_TEXT.false short))

pub returns : goal.returns
returns g c =
    let text = c.args.text.now in
    let nodes = c.args.nodes.now in
    let classes = c.args.classes.now in
    let groups = c.args.groups.now in
    let some = eqb-false _ _ (sym c.is_empty.ensures ∙ c.if-is_empty.false) in
    let ready : Ready text (lent_of nodes classes groups) =
    record {
      some_text = omega (arith, some);
      short_text = c.if-text-gt-MAX_TEXT.false;
      nodes = c.if-nodes-lt-MAX_NODES.false;
      classes = c.if-classes-lt-MAX_POSITIONS.false;
      groups = c.if-groups-lt-MAX_GROUPS.false;
    } in
    let first = c.read_text-read.new.nodes in
    let beyond = drop 255 nodes in
    let given = c.read_text-read.new.classes in
    let others = drop 63 classes in
    let o = c.limited-outcome.result in
    let u = c.unwrap_or_default-used.result in
    let used : u ≡ used_by o = used_is _ (λ v p. search rules) o u c.unwrap_or_default-used.ensures in
    let long = c.read_text-read.ensures.lent.long ∙ c.over-stack.ensures.lent.long in
    let first_room : length first ≡ 255 = c.read_text-read.auto.nodes ∙ length-take-le 255 nodes c.if-nodes-lt-MAX_NODES.false in
    let node_room : length (first ++ beyond) ≡ length nodes = search (rules, places) in
    let given_room : length given ≡ 63 = c.read_text-read.auto.classes ∙ length-take-le 63 classes c.if-classes-lt-MAX_POSITIONS.false in
    let class_room : length (given ++ others) ≡ length classes = search (rules, places) in
    read_call g.K.Kind.reading g.K.Kind.cleared text nodes classes groups (λ i h. g.met.K.Kind.within text i h)
    c.read_text-read.result o first beyond c.clear_from.new.slots given others c.clear_from-2.new.slots _
    (early_none text _ ready) first_room node_room given_room class_room c.read_text-read.ensures.read c.limited-outcome.ensures
    (c.clear_from.ensures ∙ ap (λ b. cleared_from u.nodes b (first ++ beyond)) c.cleared-2.ensures ∙ ap (λ v. cleared_from v.nodes cleared_node (first ++ beyond)) used)
    (c.clear_from-2.ensures ∙ ap (λ b. cleared_from u.positions b (given ++ others)) c.cleared_class.ensures ∙ ap (λ v. cleared_from v.positions g.K.Kind.cleared (given ++ others)) used)
    (search rules)
