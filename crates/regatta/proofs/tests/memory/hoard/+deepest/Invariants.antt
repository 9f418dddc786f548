use Rattle.regatta.proofs.tests.memory.hoard.+deepest.Given as goal

-- each call goes one block deeper
abbrev pub decreases-deepest : goal.decreases-deepest
decreases-deepest l = l.depth
