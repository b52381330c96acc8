-- A state that a call is given or gives is sound: its type says so.
-- A parameter `s : State` has it at `c.well_formed.N`.
use Prim.Native.Nat.{ℕ, zero, suc, ◌<◌, ◌^◌}
use mathlib.Core.Path.{◌≡◌}
use mathlib.Core.List.{List, [], ◌∷◌}
use mathlib.Core.Bool.{Bool, true, false, ◌&&◌}
use native.Mathlib.Omega.{arith}
use lib.Dec.{T, ltb, eqb, ltb→lt, eqb→eq}
use lib.ListN.{length, get_or}
use lib.Pow.{pow_pos}
use mir.Val.{Val, bits}
use mir.Syntax.{Width, w32}
use denote.Plain.{UInt}
use denote.Array.{each}
use denote.Shadow.{shadow}
use Rattle.state.specs.declared.State.{State}
use Rattle.state.specs.State.{lent, nested}
use Rattle.state.specs.Sound.{Sound}
use Rattle.state.specs.contracts.State.{the_row}

-- each element of an array of unsigned integers fits
each_fits : (w : Width) (xs : List ℕ) (us : List Val) → shadow (each ℕ (UInt w).own_val xs us) → (i : ℕ) → get_or xs i 0 < 2 ^ bits w
each_fits w [] us p i = pow_pos (bits w)
each_fits w (x ∷ xs) [] p i = absurd p
each_fits w (x ∷ xs) (u ∷ us) p zero = p.0.1
each_fits w (x ∷ xs) (u ∷ us) p (suc i) = each_fits w xs us p.1 i

pub sound : (s : State) {vs : List Val} → shadow (the_row.own_val s vs) → Sound s
sound s p =
    let q = p.1.1 in
    record {
      twenty = q.0.1.0.1;
      fit = each_fits w32 s.registers q.0.0 q.0.1.1;
      counter_fit = q.1.0.1;
      bank_fit = q.1.1.0.1.1.0.1;
      level_fit = q.1.1.1.0.1.1.0.1;
      flags_fit = q.1.1.1.1.0.1;
      spare_fit = q.1.1.1.1.1.0.1;
      nesting_fit = q.1.1.1.1.1.1.0.1;
    }

-- a sound state with parts laid over it that fit
pub sound_lent :
    (s : State) (registers : List ℕ) (counter bank flags spare : ℕ) → Sound s → length registers ≡ 20 → ((i : ℕ) → get_or registers i 0 < 2 ^ 32)
    → counter < 2 ^ 32 → bank < 2 ^ 8 → flags < 2 ^ 16 → spare < 2 ^ 16 → Sound (lent s registers counter bank flags spare)
sound_lent s registers counter bank flags spare ok t r c b f g =
    record { twenty = t; fit = r; counter_fit = c; bank_fit = b; level_fit = ok.level_fit; flags_fit = f; spare_fit = g; nesting_fit = ok.nesting_fit }

pub sound_nested : (s : State) (level nesting : ℕ) → Sound s → level < 2 ^ 8 → nesting < 2 ^ 16 → Sound (nested s level nesting)
sound_nested s level nesting ok l n =
    record { twenty = ok.twenty; fit = ok.fit; counter_fit = ok.counter_fit; bank_fit = ok.bank_fit; level_fit = l; flags_fit = ok.flags_fit; spare_fit = ok.spare_fit; nesting_fit = n }

-- ---- and a state is sound by a test that computes
pub and_left : (a b : Bool) → T (a && b) → T a
and_left true b t = tt
and_left false b t = t

pub and_right : (a b : Bool) → T (a && b) → T b
and_right true b t = t
and_right false b t = absurd t

-- every number of a list is below m
unfoldable pub fits : ℕ → List ℕ → Bool
fits m [] = true
fits m (x ∷ l) = ltb x m && fits m l

pub fits_says : (m : ℕ) → 0 < m → (l : List ℕ) → T (fits m l) → (i : ℕ) → get_or l i 0 < m
unfolding fits
fits_says m h [] t i = h
fits_says m h (x ∷ l) t zero = ltb→lt x m (and_left (ltb x m) (fits m l) t)
fits_says m h (x ∷ l) t (suc i) = fits_says m h l (and_right (ltb x m) (fits m l) t) i

abbrev pub sound_test : State → Bool
sound_test s =
    eqb (length s.registers) 20
    && (fits (2 ^ 32) s.registers
    && (ltb s.counter (2 ^ 32)
    && (ltb s.bank.0 (2 ^ 8)
    && (ltb s.level.0 (2 ^ 8)
    && (ltb s.flags (2 ^ 16) && (ltb s.spare (2 ^ 16) && ltb s.nesting (2 ^ 16)))))))

pub sound_by : (s : State) → T (sound_test s) → Sound s
sound_by s t =
    let a = and_right (eqb (length s.registers) 20) _ t in
    let b = and_right (fits (2 ^ 32) s.registers) _ a in
    let c = and_right (ltb s.counter (2 ^ 32)) _ b in
    let d = and_right (ltb s.bank.0 (2 ^ 8)) _ c in
    let e = and_right (ltb s.level.0 (2 ^ 8)) _ d in
    let f = and_right (ltb s.flags (2 ^ 16)) _ e in
    record {
      twenty = eqb→eq _ _ (and_left (eqb (length s.registers) 20) _ t);
      fit = fits_says (2 ^ 32) (omega arith) s.registers (and_left (fits (2 ^ 32) s.registers) _ a);
      counter_fit = ltb→lt _ _ (and_left (ltb s.counter (2 ^ 32)) _ b);
      bank_fit = ltb→lt _ _ (and_left (ltb s.bank.0 (2 ^ 8)) _ c);
      level_fit = ltb→lt _ _ (and_left (ltb s.level.0 (2 ^ 8)) _ d);
      flags_fit = ltb→lt _ _ (and_left (ltb s.flags (2 ^ 16)) _ e);
      spare_fit = ltb→lt _ _ (and_left (ltb s.spare (2 ^ 16)) _ f);
      nesting_fit = ltb→lt _ _ (and_right (ltb s.spare (2 ^ 16)) _ f);
    }
