use Rattle.std.proofs.Common.{ℕ, ◌&&◌, ◌∙◌, ap, nat_lt, not}
use Rattle.std.proofs.lemmas.Bool.{lt-ltb}
use Rattle.sets.proofs.NumberSets.{set_of-same}
use Rattle.byte_kind.specs.Class.{has_byte}
use Rattle.byte_kind.specs.Law.{class_of-has}
use Rattle.byte_kind.proofs.class.ByteClass.complement.Goals as goal

pub returns : goal.returns
returns c =
    let f = λ (b : ℕ). not (has_byte c.args.self b) in
    let e = c.others.ensures ∙ set_of-same 4 (λ b. nat_lt b 256 && f b) f (λ b h. rw (lt-ltb b 256 h)) in
    record { value = ap (λ s. record { bytes = s }) e; members = λ b h. rw e (class_of-has f b h) }
