-- A pointer goes round in its table, for the steps 1, 2 and 4 alike. Each statement is proved in proofs/Tables.antt.
use Rattle.std.specs.Prelude.{ℕ, zero, suc, ◌+◌, ◌*◌, ◌/◌, ◌%◌, ◌^◌, ◌<◌, ◌≡◌, true}
use Rattle.feed.specs.declared.cycle.Stride.{Stride}
use Rattle.feed.specs.Cycle.{stride_step, is_table, minc_of, mdec_of}

-- a pointer of a word to an entry of a table that 000 allows: every entry begins at a multiple of the step
pub record AtEntry (s : Stride) (last x : ℕ) : Type 0 where
  pub allowed : is_table s last ≡ true
  pub word : x < 2 ^ 16
  pub entry : x % stride_step s ≡ 0

-- n steps of MINC, and of MDEC
unfoldable pub minc_times : ℕ → Stride → ℕ → ℕ → ℕ
minc_times zero s last x = x
minc_times (suc n) s last x = minc_of 16 (stride_step s) last (minc_times n s last x)

unfoldable pub mdec_times : ℕ → Stride → ℕ → ℕ → ℕ
mdec_times zero s last x = x
mdec_times (suc n) s last x = mdec_of 16 (stride_step s) last (mdec_times n s last x)

-- n steps go n entries on, round in the table
abbrev pub MincGoesRound : Type 0
MincGoesRound =
    (s : Stride) (last x n : ℕ) → AtEntry s last x →
    let num = last + stride_step s in minc_times n s last x ≡ x / num * num + (x % num + n * stride_step s) % num

-- so as many steps as the table has entries come back
abbrev pub MincReturns : Type 0
MincReturns = (s : Stride) (last x : ℕ) → AtEntry s last x → minc_times ((last + stride_step s) / stride_step s) s last x ≡ x

-- n steps down come back from n steps up, and the other way round
abbrev pub MdecUndoes : Type 0
MdecUndoes =
    (s : Stride) (last x n : ℕ) → AtEntry s last x →
    (mdec_times n s last (minc_times n s last x) ≡ x) × (minc_times n s last (mdec_times n s last x) ≡ x)

-- and as many steps down as the table has entries come back too
abbrev pub MdecReturns : Type 0
MdecReturns = (s : Stride) (last x : ℕ) → AtEntry s last x → mdec_times ((last + stride_step s) / stride_step s) s last x ≡ x

-- the bits above the table never move, up or down
abbrev pub StaysInTable : Type 0
StaysInTable =
    (s : Stride) (last x n : ℕ) → AtEntry s last x →
    let num = last + stride_step s in (minc_times n s last x / num ≡ x / num) × (mdec_times n s last x / num ≡ x / num)
