-- `player::first_line` meets its contract. Assumes nothing.
use Prim.Native.Nat.{◌+◌}
use Rattle.std.proofs.Common.{eqb, rules, tests}
use Rattle.std.proofs.lemmas.Iterator.{YieldsList-from_slice}
use Rattle.std.proofs.lemmas.Iterator.Search.{position_from_yields_List}
use Rattle.lists.proofs.ChunkLaws.{rest_whole}
use Rattle.player.proofs.Lines.{first_found, first_none}
use Rattle.player.proofs.first_line.Goals as goal

pub returns-in-Some-clause-calls : goal.returns-in-Some-clause-calls
returns-in-Some-clause-calls c =
    let s = c.args.s.now in
    let place = position_from_yields_List (λ b. eqb b 10) _ _ c.position.result c.position.ensures.ran (YieldsList-from_slice s cc) (λ x b q k. search (rules, tests)) in
    rw (rest_whole (c.in-Some.end + 1) s) (first_found s c.position.result place c.in-Some.is)

pub returns-in-None-clause-calls : goal.returns-in-None-clause-calls
returns-in-None-clause-calls c =
    let s = c.args.s.now in
    let place = position_from_yields_List (λ b. eqb b 10) _ _ c.position.result c.position.ensures.ran (YieldsList-from_slice s cc) (λ x b q k. search (rules, tests)) in
    first_none s c.position.result place c.in-None.is
