use Rattle.std.proofs.Common.{rules, arith, ◌≡◌, ℕ, ◌-◌, ◌≤◌, List, [], ◌++◌, length, take, drop, replicate, length-append, append-nil}
use Rattle.std.proofs.lemmas.List.{drop-replicate, length-replicate, take_all, drop_all}
use Rattle.rv32_exec.proofs.memory.zero_filled.Goals as goal

-- zeros whose first elements were overwritten, and what is left of the zeros after all of these
overwritten : (initial items : List ℕ) (count : ℕ) → items ≡ replicate count 0 → length initial ≤ count → take count ((initial ++ drop (length initial) items) ++ drop (length (initial ++ drop (length initial) items)) items) ≡ initial ++ replicate (count - length initial) 0
overwritten initial items count zeros room =
    let rest : drop (length initial) items ≡ replicate (count - length initial) 0 = rw zeros (drop-replicate (length initial) count 0) in
    let all : length (initial ++ replicate (count - length initial) 0) ≡ count =
    rw (length-append, length-replicate) (omega arith) in
    let none : drop count items ≡ [] = drop_all count items (rw (zeros, length-replicate) (omega arith)) in
    rw (rest, all, none, append-nil) (take_all count (initial ++ replicate (count - length initial) 0) (omega arith))

pub returns-clause-items : goal.returns-clause-items
returns-clause-items c =
    let zeros : c.in-Ok.words.items ≡ replicate c.args.count 0 = search rules in
    let all : c.in-Ok.words.len ≡ c.args.count = search rules in
    rw (c.overwrite.ensures, c.deref_mut.ensures.value, all) (overwritten c.args.initial.now c.in-Ok.words.items c.args.count zeros c.requires)
