-- `store_values` stores the effect of an accepted action in main and the copies, arm by arm. Assumes nothing.
use Rattle.table.proofs.PerformLaws.{read_values, write_values, barrier_values, mtoc_values, ctom_values, ctoc_values, drop_values, acquire_values, release_values}
use Rattle.table.proofs.action.store_values.Goals as goal

pub returns-in-Read : goal.returns-in-Read
returns-in-Read c = rw (c.in-Read.is, c.place.ensures) (λ cells w y l. read_values _ _ _ _ y _ l)

pub returns-in-Write : goal.returns-in-Write
returns-in-Write c = rw (c.in-Write.is, c.place-in-Write.ensures) (λ cells w y l. write_values _ _ _ _ y _ _)

pub returns-in-Barrier : goal.returns-in-Barrier
returns-in-Barrier c = rw c.in-Barrier.is (λ cells w y l. barrier_values _ _ _ _ y _)

pub returns-in-MtoC : goal.returns-in-MtoC
returns-in-MtoC c = rw (c.in-MtoC.is, c.place-in-MtoC.ensures) (λ cells w y l. mtoc_values _ _ _ _ y _)

pub returns-in-CtoM : goal.returns-in-CtoM
returns-in-CtoM c = rw (c.in-CtoM.is, c.place-in-CtoM.ensures) (λ cells w y l. ctom_values _ _ _ _ y _ l)

pub returns-in-CtoC : goal.returns-in-CtoC
returns-in-CtoC c = rw (c.in-CtoC.is, c.place-in-CtoC.ensures, c.place-in-CtoC-2.ensures) (λ cells w y l. ctoc_values _ _ _ _ y _ _ l.0)

pub returns-in-Drop : goal.returns-in-Drop
returns-in-Drop c = rw (c.in-Drop.is, c.place-in-Drop.ensures) (λ cells w y l. drop_values _ _ _ _ y _)

pub returns-in-Acquire : goal.returns-in-Acquire
returns-in-Acquire c = rw c.in-Acquire.is (λ cells w y l. acquire_values _ _ _ _ y _)

pub returns-in-Release : goal.returns-in-Release
returns-in-Release c = rw c.in-Release.is (λ cells w y l. release_values _ _ _ _ y _)
