-- `store_masks` stores the effect of an accepted action in the masks, arm by arm. Assumes nothing.
use Rattle.table.proofs.PerformLaws.{read_masks, write_masks, barrier_masks, mtoc_masks, ctom_masks, ctoc_masks, drop_masks, acquire_masks, release_masks}
use Rattle.table.proofs.action.store_masks.Goals as goal

pub returns-in-Read : goal.returns-in-Read
returns-in-Read c = rw c.in-Read.is (λ boards cells m k y l. read_masks _ _ _ _ y _)

pub returns-in-Write : goal.returns-in-Write
returns-in-Write c = rw c.in-Write.is (λ boards cells m k y l. write_masks _ _ _ _ y _ _ _ _ c.put.ensures c.put-in-Write.ensures)

pub returns-in-Barrier : goal.returns-in-Barrier
returns-in-Barrier c = rw c.in-Barrier.is (λ boards cells m k y l. barrier_masks _ _ _ _ y _)

pub returns-in-MtoC : goal.returns-in-MtoC
returns-in-MtoC c = rw c.in-MtoC.is (λ boards cells m k y l. mtoc_masks _ _ _ _ y _ _ c.put-in-MtoC.ensures)

pub returns-in-CtoM : goal.returns-in-CtoM
returns-in-CtoM c = rw c.in-CtoM.is (λ boards cells m k y l. ctom_masks _ _ _ _ y _ _ c.take.ensures)

pub returns-in-CtoC : goal.returns-in-CtoC
returns-in-CtoC c = rw c.in-CtoC.is (λ boards cells m k y l. ctoc_masks _ _ _ _ y _ _ _ c.put-in-CtoC.ensures)

pub returns-in-Drop : goal.returns-in-Drop
returns-in-Drop c = rw c.in-Drop.is (λ boards cells m k y l. drop_masks _ _ _ _ y _ _ c.take-in-Drop.ensures)

pub returns-in-Acquire : goal.returns-in-Acquire
returns-in-Acquire c = rw c.in-Acquire.is (λ boards cells m k y l. acquire_masks _ _ _ _ y _ _ c.put-in-Acquire.ensures)

pub returns-in-Release : goal.returns-in-Release
returns-in-Release c = rw c.in-Release.is (λ boards cells m k y l. release_masks _ _ _ _ y _ _ c.take-in-Release.ensures)
