use Rattle.std.proofs.Common.{◌≡◌, ℕ, ◌-◌, ◌/◌, ◌^◌, subst, add-sub_of_le}
use Rattle.smtlib.specs.Theory.{all_ones}
use Rattle.smtlib.proofs.Word.{ones_shr}
use Rattle.bitvec.proofs.all_ones.Goals as goal

pub returns : goal.returns
unfolding all_ones
returns c =
    let w = c.args.width.bits in
    subst (λ (n : ℕ). (2 ^ n - 1) / 2 ^ (64 - w) ≡ 2 ^ w - 1) (add-sub_of_le c.args.width.is_width.most) (ones_shr w (64 - w))
