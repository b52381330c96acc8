-- How a table of runs, or of histories, is written: what they start from, and all that they leave.
use Rattle.std.specs.Prelude.{ℕ, ◌≡◌, List, [], ◌∷◌, replicate, Ok}
use Rattle.answer.specs.declared.Why.{Why}
use Rattle.little.specs.{declared.Size.Size, Bytes.replaced}
use Rattle.little.specs.declared.Size.TheVariants.{Byte, Word, Long}
use Rattle.state.specs.{declared.State.State, State.reset_state, State.lent, State.with_counter, State.with_bank, State.with_level, State.with_nesting, State.with_flags, State.with_both_flags, State.with_long, Register.set_register}
use Rattle.operand.specs.Try.{Try, did, no}
use Rattle.turn.specs.Many.{ends}
use Rattle.run.specs.Run.{run_of}
use Rattle.between.specs.History.{Event, taking, history_of, counted_in}
use Rattle.answer.specs.Number.{Answer}

-- a state, and the bytes of RAM
pub record Machine : Type 0 where
  pub state : State
  pub ram : List ℕ

-- these two together
abbrev pub machine : State → List ℕ → Machine
machine s ram = record { state = s; ram = ram }

-- this RAM; bank 0, level 7, counter 0 and this F; every register, XSP too, and F' hold what a wrong write would spoil
unfoldable pub begin : ℕ → List ℕ → Machine
begin f ram = machine (lent (reset_state 0) (replicate 20 0x5A5A5A5A) 0 0 f 0x51) ram

-- what is different in a machine: nothing; one thing and then another; a register, F or F' with its marks above it (1xx marks H, 2xx V),
-- the bank, the level, the nesting count or the counter, set to a number; the bytes of RAM from an address on; one of the twenty longs, by
-- its place, set to a number
infixl 40 ◌&◌
pub data Setting : Type 0 where
  nothing : Setting
  ◌&◌ : Setting → Setting → Setting
  A WA BC DE HL IX XDE XHL XIX XIY XSP F F' Bank Level Nesting Counter : ℕ → Setting
  Ram : ℕ → List ℕ → Setting
  Nth : ℕ → ℕ → Setting

-- a machine with this state in the place of its own; with a register, by its size and code, set
abbrev pub having : State → Machine → Machine
having s m = machine s m.ram

abbrev pub setting : Size → ℕ → ℕ → Machine → Machine
setting z r v m = having (set_register m.state z r v) m

-- a machine with something changed
infixl 30 ◌▹◌
abbrev pub ◌▹◌ : Machine → Setting → Machine
m ▹ nothing = m
m ▹ (a & b) = m ▹ a ▹ b
m ▹ A v = setting Byte 1 v m
m ▹ WA v = setting Word 0 v m
m ▹ BC v = setting Word 1 v m
m ▹ DE v = setting Word 2 v m
m ▹ HL v = setting Word 3 v m
m ▹ IX v = setting Word 4 v m
m ▹ XDE v = setting Long 2 v m
m ▹ XHL v = setting Long 3 v m
m ▹ XIX v = setting Long 4 v m
m ▹ XIY v = setting Long 5 v m
m ▹ XSP v = setting Long 7 v m
m ▹ F v = having (with_flags m.state v) m
m ▹ F' v = having (with_both_flags m.state m.state.flags v) m
m ▹ Bank n = having (with_bank m.state n) m
m ▹ Level l = having (with_level m.state l) m
m ▹ Nesting n = having (with_nesting m.state n) m
m ▹ Counter a = having (with_counter m.state a) m
m ▹ Ram o bytes = machine m.state (replaced o bytes m.ram)
m ▹ Nth i v = having (with_long m.state i v) m

-- ---- a run of so many steps from a machine and a ROM, and what it must leave: the machine, the count and the answer
pub record Case : Type 0 where
  pub steps : ℕ
  pub start : Machine
  pub rom : List ℕ
  pub done : ℕ
  pub after : Machine
  pub answer : Answer

-- a row of a table: of the machine only what is named has changed
abbrev pub row : ℕ → Machine → List ℕ → ℕ → Setting → Answer → Case
row steps m rom done change a = record { steps = steps; start = m; rom = rom; done = done; after = m ▹ change; answer = a }

-- all steps are done, with no ROM
abbrev pub does : ℕ → Machine → Setting → Case
does steps m change = row steps m [] steps change (Ok tt)

-- the run leaves just that
abbrev pub ComesOut : Case → Type 0
ComesOut c = run_of c.steps c.start.state c.start.ram c.rom ≡ ends c.done c.after.state c.after.ram c.answer

-- ---- steps and offers of requests from a machine and a ROM, and what they must leave: how many of the requests are taken, and the machine,
-- or the refusal that ends them
pub record Tale : Type 0 where
  pub start : Machine
  pub rom : List ℕ
  pub events : List Event
  pub taken : ℕ
  pub outcome : Try

-- all of them happen: of the machine only what is named has changed
abbrev pub goes : Machine → List ℕ → List Event → ℕ → Setting → Tale
goes m rom es taken change =
    record { start = m; rom = rom; events = es; taken = taken; outcome = did (m ▹ change).state (m ▹ change).ram }

-- the last of them is refused
abbrev pub breaks : Machine → List ℕ → List Event → ℕ → Why → Tale
breaks m rom es taken w = record { start = m; rom = rom; events = es; taken = taken; outcome = no w }

-- they leave just that
abbrev pub TaleHolds : Tale → Type 0
TaleHolds t =
    (history_of t.events t.start.state t.start.ram t.rom ≡ t.outcome)
    × (counted_in taking t.events t.start.state t.start.ram t.rom ≡ t.taken)

-- something holds of each of a list
abbrev pub OfEach : {X : Type 0} → (X → Type 0) → List X → Type 0
OfEach P [] = Unit {0}
OfEach P (x ∷ l) = P x × OfEach P l
