-- `guard` gives the number of the guard table, arm by arm. Assumes nothing.
use Rattle.table.proofs.GuardLaws.{read_tests, write_tests, barrier_tests, mtoc_tests, ctom_tests, ctoc_tests, drop_tests, acquire_tests, release_tests}
use Rattle.table.proofs.rules.guard.Goals as goal

pub returns-in-Read : goal.returns-in-Read
returns-in-Read c = let has = rw c.in-Read.is at c.requires.0 in rw c.in-Read.is (λ x hl hd ho hk hn. rw (c.first.ensures, c.has.ensures, c.eq.ensures, ← hl, ← hk, ← hn) (read_tests x _ _ has))

pub returns-in-Write : goal.returns-in-Write
returns-in-Write c = let has = rw c.in-Write.is at c.requires.0 in rw c.in-Write.is (λ x hl hd ho hk hn. rw (c.first-in-Write.ensures, c.eq-in-Write.ensures, c.has-in-Write.ensures, c.has_another.ensures, c.eq-in-Write-2.ensures, c.has_another-in-Write.ensures, c.is_before-no_locks.ensures, c.has-in-Write-2.ensures, ← hd, ← hl, ← ho) (write_tests x _ _ _ has))

pub returns-in-Barrier : goal.returns-in-Barrier
returns-in-Barrier c = let has = rw c.in-Barrier.is at c.requires.0 in rw c.in-Barrier.is (λ x hl hd ho hk hn. rw (c.first-in-Barrier.ensures, c.has-in-Barrier.ensures, ← hl) (barrier_tests x _ _ has))

pub returns-in-MtoC : goal.returns-in-MtoC
returns-in-MtoC c = let has = rw c.in-MtoC.is at c.requires.0 in rw c.in-MtoC.is (λ x hl hd ho hk hn. rw (c.first-in-MtoC.ensures, c.has-in-MtoC.ensures, c.eq-in-MtoC.ensures, c.eq-in-MtoC-2.ensures, c.has_another-in-MtoC.ensures, c.is_before-no_locks.ensures, c.has_another-in-MtoC-2.ensures, ← hd, ← ho) (mtoc_tests x _ _ has))

pub returns-in-CtoM : goal.returns-in-CtoM
returns-in-CtoM c = let has = rw c.in-CtoM.is at c.requires.0 in rw c.in-CtoM.is (λ x hl hd ho hk hn. rw (c.first-in-CtoM.ensures, c.has-in-CtoM.ensures, ← hd) (ctom_tests x _ _ has))

pub returns-in-CtoC : goal.returns-in-CtoC
returns-in-CtoC c = let has = rw c.in-CtoC.is at c.requires.0 in rw c.in-CtoC.is (λ x hl hd ho hk hn. rw (c.first-in-CtoC.ensures, c.is_before-no_locks.ensures, c.is_empty.ensures, c.has-in-CtoC.ensures, c.has-in-CtoC-2.ensures, ← hd, ← hl, ← ho) (ctoc_tests x _ _ _ has))

pub returns-in-Drop : goal.returns-in-Drop
returns-in-Drop c = let has = rw c.in-Drop.is at c.requires.0 in rw c.in-Drop.is (λ x hl hd ho hk hn. rw (c.first-in-Drop.ensures, c.has-in-Drop.ensures, ← hd) (drop_tests x _ _ has))

pub returns-in-Acquire : goal.returns-in-Acquire
returns-in-Acquire c = let has = rw c.in-Acquire.is at c.requires.0 in rw c.in-Acquire.is (λ x hl hd ho hk hn. rw (c.first-in-Acquire.ensures, c.is_empty-in-Acquire.ensures, c.has_another-in-Acquire.ensures, ← hl, ← ho) (acquire_tests x _ _ has))

pub returns-in-Release : goal.returns-in-Release
returns-in-Release c = let has = rw c.in-Release.is at c.requires.0 in rw c.in-Release.is (λ x hl hd ho hk hn. rw (c.first-in-Release.ensures, c.eq-in-Release.ensures, c.has-in-Release.ensures, ← hd) (release_tests x _ _ has))
