-- What the first byte says of an instruction, and one step by the instruction that stands at the counter.
use Prim.Native.Nat.{ℕ, suc, ◌-◌, ◌<◌, ◌≤◌}
use mathlib.Core.Path.{◌≡◌, refl, ap, sym, ◌∙◌}
use mathlib.Core.List.{List}
use mathlib.Core.Bool.{true, false}
use lib.ListN.{length, get_or}
use Rattle.memory.specs.Access.{code_at}
use Rattle.state.specs.declared.State.{State}
use Rattle.code.specs.Said.{Said, judge}
use Rattle.code.specs.Rows.{lookup}
use Rattle.code.specs.Listed.{alone_rows, memory_first_rows, first_rows, decode_of}
use Rattle.code.specs.inner.Parts.{begins_register, register_size, register_begun}
use Rattle.code.proofs.Judge.{next_there, next_short}
use Rattle.code.proofs.FirstRows.{in_alone, in_registers, in_memory}
use Rattle.exec.specs.Exec.{done}
use Rattle.turn.specs.Once.{once_of}
use Rattle.turn.specs.inner.Times.{times_of}
use Rattle.turn.proofs.Times.{times_one}
use Rattle.std.proofs.Common.{Err}
use Rattle.code.specs.Unread.{Decoded}
use Rattle.code.specs.declared.Unread.TheVariants.{Short}

pub none_says : (code : List ℕ) → length code ≤ 0 → decode_of code ≡ Err Short
unfolding decode_of
none_says code h = sym (next_short (lookup first_rows) code 0 h)

module _ (code : List ℕ) (h : 0 < length code) where
  -- the instruction, by what the first byte says
  by_first : (d : Said) → lookup first_rows (get_or code 0 0) ≡ d → decode_of code ≡ judge d code 1
  unfolding decode_of
  by_first d e = sym (next_there (lookup first_rows) code 0 (judge (lookup first_rows (get_or code 0 0)) code 1) h refl) ∙ ap (λ (x : Said). judge x code 1) e

  pub alone_says : get_or code 0 0 < 128 → decode_of code ≡ judge (lookup alone_rows (get_or code 0 0)) code 1
  alone_says l = by_first (lookup alone_rows (get_or code 0 0)) (in_alone (get_or code 0 0) l)

  pub register_says : get_or code 0 0 < 256 → begins_register (get_or code 0 0) ≡ true → decode_of code ≡ judge (register_begun (register_size (get_or code 0 0)) (get_or code 0 0)) code 1
  register_says u m = let b = get_or code 0 0 in by_first (register_begun (register_size b) b) (in_registers b u m)

  pub memory_says : 128 ≤ get_or code 0 0 → get_or code 0 0 < 256 → begins_register (get_or code 0 0) ≡ false → decode_of code ≡ judge (lookup memory_first_rows (get_or code 0 0)) code 1
  memory_says l u m = by_first (lookup memory_first_rows (get_or code 0 0)) (in_memory (get_or code 0 0) u l m)

-- one step, by the instruction that stands at the counter
pub once_by :
    (s : State) (ram rom code : List ℕ) (d : Decoded) (n : ℕ) → code ≡ code_at ram rom s.counter → decode_of code ≡ d
    → done d s ram rom ≡ times_of (suc (n - n)) s ram rom
unfolding once_of
once_by s ram rom code d n e f =
    sym (times_one n s ram rom ∙ ap (λ (x : List ℕ). done (decode_of x) s ram rom) (sym e) ∙ ap (λ (x : Decoded). done x s ram rom) f)
