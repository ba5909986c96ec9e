use Rattle.std.proofs.Common.{◌*◌, refl, ◌/◌, ◌<◌, length, subst, sym, ◌∙◌, arith}
use Rattle.std.proofs.lemmas.List.{length-set}
use Rattle.sets.specs.NumberSets.{in_words}
use Rattle.sets.proofs.NumberSets.{whole_of, small-set, in_words-added, one_more, added_below, added_at, added_beyond}
use Rattle.sets.proofs.number_set.NumberSet.gathered.Goals as goal

pub loop-n-preserved : goal.loop-n-preserved
loop-n-preserved g c =
    elim c.if-n.branch [
      | goal.then-n+then-passes w ↦
          let n = c.loop-n.n in
          let h : n / 64 < length c.loop-n.words = omega arith in
          let added = in_words-added c.loop-n.words n w.insert.result h w.insert.ensures.added in
          record {
            many = rw w.words-is (length-set c.loop-n.words (n / 64) w.insert.result ∙ c.loop-n.invariant.many);
            small = rw w.words-is (small-set _ _ _ h w.insert.type_inv c.loop-n.invariant.small);
            below =
                rw w.words-is
                (one_more (goal.F-post g c.args.passes) (in_words c.loop-n.words) _ n (64 * g.row.WORDS) c.loop-n.invariant.below
                (added_below c.loop-n.words _ n added)
                (λ l. let answer = w.if-passes.ensures in subst (goal.F-post g c.args.passes n) (sym (added_at c.loop-n.words _ n added)) answer));
            no_more =
                rw w.words-is
                (λ m h l. added_beyond c.loop-n.words _ n added (λ k a b. c.loop-n.invariant.no_more k a (omega (arith, b))) m h (omega (arith, l)));
          }
      | goal.else-n w ↦
          record {
            many = rw w.words-is c.loop-n.invariant.many;
            small = rw w.words-is c.loop-n.invariant.small;
            below =
                rw w.words-is
                (one_more (goal.F-post g c.args.passes) (in_words c.loop-n.words) _ c.loop-n.n (64 * g.row.WORDS) c.loop-n.invariant.below (λ m h. refl)
                (λ l.
                subst (goal.F-post g c.args.passes c.loop-n.n) (sym (c.loop-n.invariant.no_more c.loop-n.n (omega arith) l))
                (elim w.else-n.branch [
                  | goal.else-n-via-then-n+else-passes v ↦ let answer = v.if-passes.ensures in answer
                  | goal.else-n-via-else-n v ↦ absurd (omega arith)
                ])));
            no_more = λ m h l. rw w.words-is (c.loop-n.invariant.no_more m (omega arith) l);
          }
    ]

pub returns : goal.returns
returns g c =
    whole_of g.row.WORDS c.args.count _ (record { words = c.loop-n.words })
    (record { many = c.loop-n.invariant.many; small = c.loop-n.invariant.small })
    (λ n h l. c.loop-n.invariant.below n (omega arith) l) (λ n h l. c.loop-n.invariant.no_more n (omega arith) l)
