-- The procedure of an action, as the code names it: its boards, and what refuses it. Assumes nothing.
use mathlib.Core.Path.{◌≡◌, refl, sym, ◌∙◌}
use mathlib.Core.Bool.{Bool, true, false, not}
use mathlib.Core.List.{[], ◌∷◌}
use Prim.Native.Nat.{ℕ}
use native.Mathlib.Omega.{arith}
use native.Mathlib.Decide.{ℕ_discrete}
use lib.Dec.{eqb, ltb}
use borrow.Author.Tests.{lt-ltb, ne_eqb}
use Rattle.std.specs.Prelude.{Result, Ok, Err, IfOk}
use Rattle.protocol.specs.declared.Action.{Action}
use Rattle.protocol.specs.declared.Proc.{Proc}
use Rattle.protocol.specs.declared.Proc.TheVariants.{Read, Write, Barrier, MtoC, CtoM, CtoC, Drop, Acquire, Release}
use Rattle.protocol.specs.declared.Refused.{Refused}
use Rattle.protocol.specs.Names.{proc_of}
use Rattle.protocol.specs.Replies.{number_of_reply}
use Rattle.protocol.specs.First.{when, first_number}
use Rattle.protocol.specs.Step.{malformed, missing}
use Rattle.protocol.proofs.NumberLaws.{by_code, code_fits}
use Rattle.table.specs.Code.{EachBoard, board_of, Names}

pub above_0 : (n : ℕ) → ltb 0 n ≡ not (eqb n 0)
above_0 n = go (ℕ_discrete n 0)
  where
    go : Dec (n ≡ 0) → ltb 0 n ≡ not (eqb n 0)
    go (yes z) = rw z
    go (no k) = rw (lt-ltb 0 n (omega arith), ne_eqb n 0 k)

-- 3 and 4 in their order, as `named` tests them
pub named_is : (rule : ℕ) (a : Action) (r : Result Proc Refused) (p : Proc) (b d : Bool) →
    number_of_reply r ≡ first_number (when 3 b ∷ when 4 d ∷ []) → IfOk r (λ q. q ≡ p) → b ≡ malformed a → d ≡ missing rule a.code → p ≡ proc_of a → Names rule a r
named_is rule a (Err e) p b d n ok f m same = rw (sym f, sym m) n
named_is rule a (Ok q) p true d n ok f m same = absurd (omega (arith, n))
named_is rule a (Ok q) p false true n ok f m same = absurd (omega (arith, n))
named_is rule a (Ok q) p false false n ok f m same = (sym f, sym m, ok ∙ same)

-- ---- the boards of a procedure

pub each_board : (F : ℕ → Type 0) (a : Action) → malformed a ≡ false → F a.board → F a.to → EachBoard F (proc_of a)
unfolding proc_of
each_board F a f b t = by_code (λ (k : ℕ). EachBoard F (proc_of (record { code = k; board = a.board; to = a.to; cell = a.cell; value = a.value }))) b b b b b (b, t) b b b a.code (code_fits a f)

pub board_is : (a : Action) → malformed a ≡ false → board_of (proc_of a) ≡ a.board
unfolding proc_of
board_is a f = by_code (λ (k : ℕ). board_of (proc_of (record { code = k; board = a.board; to = a.to; cell = a.cell; value = a.value })) ≡ a.board) refl refl refl refl refl refl refl refl refl a.code (code_fits a f)

pub each_weaker : (F G : ℕ → Type 0) → ((p : ℕ) → F p → G p) → (a : Proc) → EachBoard F a → EachBoard G a
each_weaker F G f (Read p) e = f p e
each_weaker F G f (Write p v) e = f p e
each_weaker F G f (Barrier p) e = f p e
each_weaker F G f (MtoC p) e = f p e
each_weaker F G f (CtoM p) e = f p e
each_weaker F G f (CtoC p q) e = (f p e.0, f q e.1)
each_weaker F G f (Drop p) e = f p e
each_weaker F G f (Acquire p) e = f p e
each_weaker F G f (Release p) e = f p e
