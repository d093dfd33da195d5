use Rattle.std.proofs.Common.{◌≡◌, ◌≢◌, ℕ, ◌+◌, ◌-◌, List, length, take, drop, take_all, length-drop, subst, arith}
use Rattle.std.specs.List.{All}
use Rattle.listing.proofs.find.Goals as goal

pub returns-clause-none_before : goal.returns-clause-none_before
returns-clause-none_before c =
    let from = c.args.from in
    let text = c.args.text.now in
    let n = c.count_before.result in
    let same : (from + n) - from ≡ n = omega arith in
    let rest = take_all (length text - from) (drop from text) (omega (arith, length-drop from text)) in
    rw same (subst (λ (l : List ℕ). All (λ b. b ≢ c.args.byte) (take n l)) rest c.count_before.ensures.none_before)
