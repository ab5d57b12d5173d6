-- No two replies have one number, and none has 0: an answer tells its result. Assumes nothing.
use Rattle.std.proofs.Common.{◌≡◌, refl, sym, ap, ◌∙◌, arith}
use Rattle.std.specs.Prelude.{◌≢◌, ℕ, List, [], ◌∷◌, get_or, Result, Ok, Err}
use Rattle.protocol.specs.declared.Answer.{Answer}
use Rattle.protocol.specs.declared.Refused.{Refused}
use Rattle.protocol.specs.declared.Refused.TheVariants.{BadSizes, BadRule, Malformed, Missing, OffBoard, NoSuchCell, NotSound}
use Rattle.protocol.specs.declared.Refused.TheVariants.{NotLive, IsDirty, NotDirty, DirtyElsewhere, AnotherCopy, LockBars, LockNotHeld, NotCurrent, StillLive}
use Rattle.protocol.specs.declared.Refused.TheVariants.{WrongMark, WrongVersion, WrongLength, NoRoom}
use Rattle.protocol.specs.Replies.{reply_number, number_of_reply, answer_of}

-- the reply with a number
abbrev replies : List Refused
replies =
    BadSizes
    ∷ BadSizes
    ∷ BadRule
    ∷ Malformed
    ∷ Missing
    ∷ OffBoard
    ∷ NoSuchCell
    ∷ NotSound
    ∷ NotLive
    ∷ IsDirty
    ∷ NotDirty
    ∷ DirtyElsewhere
    ∷ AnotherCopy
    ∷ LockBars
    ∷ LockNotHeld
    ∷ NotCurrent
    ∷ StillLive
    ∷ WrongMark
    ∷ WrongVersion
    ∷ WrongLength
    ∷ NoRoom
    ∷ []

reply_with : (e : Refused) → get_or replies (reply_number e) BadSizes ≡ e
reply_with BadSizes = refl
reply_with BadRule = refl
reply_with Malformed = refl
reply_with Missing = refl
reply_with OffBoard = refl
reply_with NoSuchCell = refl
reply_with NotSound = refl
reply_with NotLive = refl
reply_with IsDirty = refl
reply_with NotDirty = refl
reply_with DirtyElsewhere = refl
reply_with AnotherCopy = refl
reply_with LockBars = refl
reply_with LockNotHeld = refl
reply_with NotCurrent = refl
reply_with StillLive = refl
reply_with WrongMark = refl
reply_with WrongVersion = refl
reply_with WrongLength = refl
reply_with NoRoom = refl

pub one_reply : (e e' : Refused) → reply_number e ≡ reply_number e' → e ≡ e'
one_reply e e' s = sym (reply_with e) ∙ ap (λ n. get_or replies n BadSizes) s ∙ reply_with e'

-- the place 0 has the reply 1
pub not_accepted : (e : Refused) → reply_number e ≢ 0
not_accepted e z =
    let b : BadSizes ≡ e = ap (λ n. get_or replies n BadSizes) (sym z) ∙ reply_with e in
    let d : ◌≡◌ {A = ℕ} 1 0 = ap reply_number b ∙ z in
    omega arith

-- answers of one number and one value are the same
pub same_answer : (r r' : Answer) → r.number ≡ r'.number → r.value ≡ r'.value → r ≡ r'
same_answer r r' number value = λ i. record { number = number i; value = value i }

-- two results have one number: they refuse alike, and accepted they are the same where they hold the same
pub one_result : {A : Type 0} (r r' : Result A Refused) → number_of_reply r ≡ number_of_reply r' → ((a a' : A) → r ≡ Ok a → r' ≡ Ok a' → a ≡ a') → r ≡ r'
one_result (Ok a) (Ok a') s f = ap Ok (f a a' refl refl)
one_result (Ok a) (Err e) s f = absurd (not_accepted e (sym s))
one_result (Err e) (Ok a) s f = absurd (not_accepted e s)
one_result (Err e) (Err e') s f = ap Err (one_reply e e' s)

-- an answer tells its result
pub one_answer : (r r' : Result ℕ Refused) → (answer_of r).number ≡ (answer_of r').number → (answer_of r).value ≡ (answer_of r').value → r ≡ r'
one_answer (Ok v) (Ok v') s e = ap Ok e
one_answer (Ok v) (Err e') s e = absurd (not_accepted e' (sym s))
one_answer (Err e') (Ok v) s e = absurd (not_accepted e' s)
one_answer (Err e') (Err d) s e = ap Err (one_reply e' d s)
