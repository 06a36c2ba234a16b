-- `surely_fine`: the sum of all magnitudes is at most the limit, and the sides are in order.
use lib.Ieee.{of_bits}
use Rattle.clip.proofs.AtOnce.{AllFit, all_fit, at_once}
use borrow.Author.Rules.{rules}
use Rattle.clip.proofs.refuse.surely_fine.Goals as goal

pub returns : goal.returns
unfolding of_bits
returns c =
    λ h.
    let handed : AllFit c.args.a c.args.b c.args.window = search (rules, all_fit) in
    at_once c.args.a c.args.b c.args.window handed (rw (c.sizes.ensures, c.sizes-2.ensures, c.sizes-3.ensures, c.sizes-4.ensures) at h)
