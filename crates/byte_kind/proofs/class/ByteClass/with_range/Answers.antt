use Rattle.std.proofs.Common.{◌≡◌, ℕ, ◌+◌, ◌<◌, Bool, ◌&&◌, ◌||◌, ◌∙◌, ap, nat_le, nat_lt, arith}
use Rattle.std.proofs.lemmas.Bool.{lt-ltb}
use Rattle.std.proofs.lemmas.Bool.Decides.{nat_tests}
use Rattle.sets.proofs.NumberSets.{set_of-same}
use Rattle.byte_kind.specs.Class.{has_byte, between}
use Rattle.byte_kind.specs.Law.{class_of-has}
use Rattle.byte_kind.proofs.class.ByteClass.with_range.Goals as goal

-- A span of bytes is a range, where it begins at the first and ends behind the last.
span_is_range : (b first last from end : ℕ) (t : Bool) → b < 256 → from ≡ first → end ≡ last + 1
    → (nat_lt b 256 && (nat_le from b && nat_lt b end || t)) ≡ (between first last b || t)
span_is_range b first last from end t h e k = rw (lt-ltb b 256 h, e, k, up_to)
  where
    up_to : nat_lt b (last + 1) ≡ nat_le b last
    up_to = grind (arith, nat_tests)

pub returns : goal.returns
returns c =
    let f = λ (b : ℕ). between c.args.first c.args.last b || has_byte c.args.self b in
    let e =
    c.with_span.ensures
    ∙ set_of-same 4 _ f
    (λ b h.
    let first = c.from.ensures in
    let last = c.from-end.ensures in span_is_range b c.args.first c.args.last _ _ (has_byte c.args.self b) h (omega arith) (omega arith)) in
    record { value = ap (λ s. record { bytes = s }) e; members = λ b h. rw e (class_of-has f b h) }
