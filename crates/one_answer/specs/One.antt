-- What it means that a promise leaves one possible answer. Document 01: "For every input, refusals too, the stated result of a public call leaves one
-- possible answer and one possible content of lent buffers and tables."
-- It is said of the contract that the toolchain makes of a function's signature and clauses, `ended` and `clauses` of the function's own module, which is
-- what the function is proved to keep. So no promise is written out again here.
-- Assumes nothing.
use Rattle.std.specs.Prelude.{◌≡◌}
use seplogic.Ra.Ura.{Ura}
use base.Logic.{SProp, ent, sep}
use prog.Memory.{Memory}
use prog.Routine.{Routine}
use types.Logic.{Logic}
use contract.Monad.{Fun, fact}
use contract.Lifetimes.{Lfts}
use denote.Triple.Entry.{Args, Res}
use denote.Triple.Clauses.{Ended, Clauses, Lasts, at_exit}

-- a function's clauses, in every model of the logic
abbrev pub Contract : Ended → Type 2
Contract T = (M : Type 1) (𝓤 : Ura M) → (𝓛 : Logic 𝓤) → (Memory → SProp 𝓤) → (Routine → Fun 𝓤) → Clauses 𝓤 T

-- a call: the lifetimes and what is passed, in a model of the logic
pub record Call (T : Ended) (c : Contract T) : Type 2 where
  pub M : Type 1
  pub 𝓤 : Ura M
  pub 𝓛 : Logic 𝓤
  pub mem : Memory → SProp 𝓤
  pub run : Routine → Fun 𝓤
  pub κs : Lfts T.signature.lifetimes
  pub passed : Args T.signature κs
  pub ghost : (c M 𝓤 𝓛 mem run κs passed).ghost

module _ (T : Ended) where
  -- what c promises at the call x of the result r, where `left` is what is left in each thing that was lent to be written
  abbrev pub Promise : (c : Contract T) (x : Call T c) → Res T.signature x.κs → Lasts T x.κs x.passed → SProp x.𝓤
  Promise c x r left = (c x.M x.𝓤 x.𝓛 x.mem x.run x.κs x.passed).ensures x.ghost r (at_exit T x.κs x.passed left)

  -- where r and `left` keep the promise, and q and `over` keep it too, what is seen of r is what is seen of q, and `left` is `over`
  abbrev pub OneBy : {A : Lfts T.signature.lifetimes → Type 0} → ((κs : Lfts T.signature.lifetimes) → Res T.signature κs → A κs) → Contract T → Type 2
  OneBy seen c =
      (x : Call T c) (r q : Res T.signature x.κs) (left over : Lasts T x.κs x.passed)
      → ent x.𝓤 (sep x.𝓤 (Promise c x r left) (Promise c x q over)) (fact x.𝓤 ((seen x.κs r ≡ seen x.κs q) × (left ≡ over)))

  -- the same where what was lent is not seen whole either: what `kept` sees of `left` is what it sees of `over`
  abbrev pub OneByEach :
      {A B : Lfts T.signature.lifetimes → Type 0}
      → ((κs : Lfts T.signature.lifetimes) → Res T.signature κs → A κs)
      → ((κs : Lfts T.signature.lifetimes) (passed : Args T.signature κs) → Lasts T κs passed → B κs)
      → Contract T
      → Type 2
  OneByEach seen kept c =
      (x : Call T c) (r q : Res T.signature x.κs) (left over : Lasts T x.κs x.passed)
      → ent x.𝓤 (sep x.𝓤 (Promise c x r left) (Promise c x q over)) (fact x.𝓤 ((seen x.κs r ≡ seen x.κs q) × (kept x.κs x.passed left ≡ kept x.κs x.passed over)))

  -- the whole result is seen
  abbrev pub One : Contract T → Type 2
  One c = OneBy (λ (κs : Lfts T.signature.lifetimes) (r : Res T.signature κs). r) c
