-- A pointer in a table of num bytes, over the numbers alone: `last` is a multiple of the step s, and num divides 2 ^ 16.
use mathlib.Core.Path.{◌≡◌, refl, sym, ap, ◌∙◌}
use mathlib.Core.Bool.{Bool, true, false}
use Prim.Native.Nat.{ℕ, zero, suc, ◌+◌, ◌-◌, ◌*◌, ◌/◌, ◌%◌, ◌≤◌, ◌<◌}
use native.Mathlib.Nat.{zero-mul, suc-mul, mul-suc, mul_comm, mul-add, mul_left_comm, mul_assoc, add-zero, add_assoc}
use native.Mathlib.Nat.{mul-div_cancel_left, mod-eq_of_lt, mod_self, add-mod_right, mod-lt}
use native.Mathlib.Nat.{mod-add-mod, add-mul-mod_self_left, add-mul-mod_self_right, mul-add-mod_self_right, mod-mod_of_dvd, div-add-mod, div-add-mod', div-lt_iff_lt-mul}
use native.Mathlib.Nat.{dvd-mul_right, mul-le-mul_left, mul-le-mul_right, lt_of_mul-lt-mul_left}
use native.Mathlib.Omega.{arith}
use borrow.Author.Tests.{eqb-true, eqb-false, ltb-true, ltb-false}
use lib.Arith.{digits_div}
use lib.Dec.{eqb, ltb}
use Rattle.feed.specs.Cycle.{minc_of, mdec_of}
use Rattle.feed.proofs.Wraps.{minc_end, minc_on, mdec_end, mdec_on}

-- products of one step: a smaller one is at most the one before
before : (s k e : ℕ) → s * k < s * e + s → s * k ≤ s * e
before s k e h =
    let c : s * suc e ≡ s * e + s = mul-suc s e in
    let l : s * k < s * suc e = omega arith in
    let d : k < suc e = lt_of_mul-lt-mul_left s l in
    mul-le-mul_left s (omega arith)

-- a multiple of s that is not 0 is at least s
pub a_step : (s r : ℕ) → r % s ≡ 0 → (r ≡ 0 → ⊥) → s ≤ r
a_step s r z d = go (ltb r s) refl
  where
    go : (b : Bool) → ltb r s ≡ b → s ≤ r
    go true t = let m : r % s ≡ r = mod-eq_of_lt (ltb-true r s t) in absurd (d (sym m ∙ z))
    go false t = ltb-false r s t

-- the place r of the table q, where an entry begins
pub record Place (s num j x : ℕ) : Type 0 where
  pub q : ℕ
  pub r : ℕ
  pub table : q < j
  pub inside : r < num
  pub entry : r % s ≡ 0
  pub at : x ≡ q * num + r

-- a pointer that moves by d, a multiple of the step, round in its table
pub record Walk (s num j d : ℕ) (t : ℕ → ℕ) : Type 0 where
  pub times : ℕ
  pub by : d ≡ s * times
  pub on : (n : ℕ) (p : Place s num j (t n)) → t (suc n) ≡ p.q * num + (p.r + d) % num

-- what is needed of a table: the step divides it, and it divides 2 ^ 16
pub record Divided (s last num : ℕ) : Type 0 where
  pub e : ℕ
  pub j : ℕ
  pub pos : 0 < s
  pub is : num ≡ last + s
  pub steps : last ≡ s * e
  pub words : 65536 ≡ num * j

module _ (s last num : ℕ) (div : Divided s last num) where
  -- a table below the end of the words lies there whole
  room : (q : ℕ) → q < div.j → q * num + num ≤ 65536
  room q h =
      let a : suc q * num ≤ div.j * num = mul-le-mul_right num h in
      let b : suc q * num ≡ q * num + num = suc-mul q num in
      let c : num * div.j ≡ div.j * num = mul_comm num div.j in
      omega arith

  -- the step divides num
  pub divides : (a : ℕ) → a % num % s ≡ a % s
  divides a =
      let m : num ≡ s * suc div.e = div.is ∙ rw (mul-suc s div.e, ← div.steps) refl in
      rw m (mod-mod_of_dvd s a (dvd-mul_right s (suc div.e)))

  -- an entry is at most the last
  at_most : (r : ℕ) → r < num → r % s ≡ 0 → r ≤ last
  at_most r h z =
      let d : s * (r / s) + r % s ≡ r = div-add-mod r s in
      let b : s * (r / s) ≤ s * div.e = before s (r / s) div.e (omega arith) in
      omega arith

  module _ (x : ℕ) (p : Place s num div.j x) where
    whole : p.q * num + num ≤ 65536
    whole = room p.q p.table

    word : x ≡ x % 65536
    word = let h : p.q * num + num ≤ 65536 = whole in sym (mod-eq_of_lt (omega arith))

    place : x % (last + s) ≡ p.r
    place = rw (← div.is, p.at) (mul-add-mod_self_right p.q num p.r ∙ mod-eq_of_lt p.inside)

    -- MINC adds the step, round
    pub minc_one : minc_of 16 s last x ≡ p.q * num + (p.r + s) % num
    minc_one = go (eqb p.r last) refl
      where
        go : (b : Bool) → eqb p.r last ≡ b → minc_of 16 s last x ≡ p.q * num + (p.r + s) % num
        go true t =
            let i : p.r ≡ last = eqb-true p.r last t in
            let f : p.r + s ≡ num = omega arith in
            let m : (p.r + s) % num ≡ 0 = rw f (mod_self num) in
            let g : x - last ≡ minc_of 16 s last x = minc_end 16 s last x x word (place ∙ i) in
            omega arith
        go false t =
            let d : p.r ≡ last → ⊥ = eqb-false p.r last t in
            let l : p.r ≤ last = at_most p.r p.inside p.entry in
            let m : (p.r + s) % num ≡ p.r + s = mod-eq_of_lt (omega arith) in
            let h : p.q * num + num ≤ 65536 = whole in
            let w : (x + s) % 65536 ≡ x + s = mod-eq_of_lt (omega arith) in
            let g : (x + s) % 65536 ≡ minc_of 16 s last x = minc_on 16 s last x x word (λ o. d (sym place ∙ o)) in
            omega arith

    -- MDEC adds the last, round, which is as far as a step back
    pub mdec_one : mdec_of 16 s last x ≡ p.q * num + (p.r + last) % num
    mdec_one = go (eqb p.r 0) refl
      where
        go : (b : Bool) → eqb p.r 0 ≡ b → mdec_of 16 s last x ≡ p.q * num + (p.r + last) % num
        go true t =
            let i : p.r ≡ 0 = eqb-true p.r 0 t in
            let h : p.q * num + num ≤ 65536 = whole in
            let m : (p.r + last) % num ≡ p.r + last = mod-eq_of_lt (omega arith) in
            let w : (x + last) % 65536 ≡ x + last = mod-eq_of_lt (omega arith) in
            let g : (x + last) % 65536 ≡ mdec_of 16 s last x = mdec_end 16 s last x x word (place ∙ i) in
            omega arith
        go false t =
            let d : p.r ≡ 0 → ⊥ = eqb-false p.r 0 t in
            let l : s ≤ p.r = a_step s p.r p.entry d in
            let f : p.r + last ≡ p.r - s + num = omega arith in
            let m : (p.r + last) % num ≡ p.r - s = rw f (add-mod_right (p.r - s) num ∙ mod-eq_of_lt (omega arith)) in
            let h : p.q * num + num ≤ 65536 = whole in
            let v : 65536 + x - s ≡ x - s + 65536 = omega arith in
            let w : (65536 + x - s) % 65536 ≡ x - s = rw v (add-mod_right (x - s) 65536 ∙ mod-eq_of_lt (omega arith)) in
            let g : (65536 + x - s) % 65536 ≡ mdec_of 16 s last x = mdec_on 16 s last x x word (λ o. d (sym place ∙ o)) in
            omega arith

  -- any word at a multiple of the step has its place
  abbrev pub placed : (x : ℕ) → x < 65536 → x % s ≡ 0 → Place s num div.j x
  placed x h z =
      let c : num * div.j ≡ div.j * num = mul_comm num div.j in
      record {
        q = x / num;
        r = x % num;
        table = (div-lt_iff_lt-mul {k = num} {x = x} {y = div.j} (omega arith)).1 (omega arith);
        inside = mod-lt x (omega arith);
        entry = divides x ∙ z;
        at = sym (div-add-mod' x num);
      }

  -- n moves by d end at an entry
  lands : (r n d k : ℕ) → r % s ≡ 0 → d ≡ s * k → (r + n * d) % num % s ≡ 0
  lands r n d k z m =
      let f : n * d ≡ s * (n * k) = rw (m, mul_left_comm n s k) refl in
      divides (r + n * d) ∙ rw f (add-mul-mod_self_left r s (n * k) ∙ z)

  module _ (t : ℕ → ℕ) (d : ℕ) (w : Walk s num div.j d t) (p : Place s num div.j (t 0)) where
    -- where n steps of d lead, in the same table
    abbrev there : (n y : ℕ) → y ≡ p.q * num + (p.r + n * d) % num → Place s num div.j y
    there n y h = record {
      q = p.q;
      r = (p.r + n * d) % num;
      table = p.table;
      inside = mod-lt (p.r + n * d) (omega arith);
      entry = lands p.r n d w.times p.entry w.by;
      at = h;
    }

    pub goes : (n : ℕ) → t n ≡ p.q * num + (p.r + n * d) % num
    goes zero =
        let z : (p.r + 0 * d) % num ≡ p.r = rw (zero-mul d, add-zero p.r) (mod-eq_of_lt p.inside) in
        p.at ∙ ap (λ (a : ℕ). p.q * num + a) (sym z)
    goes (suc n) =
        let c : ((p.r + n * d) % num + d) % num ≡ (p.r + suc n * d) % num =
        mod-add-mod (p.r + n * d) num d ∙ rw (suc-mul n d, add_assoc p.r (n * d) d) refl in
        w.on n (there n (t n) (goes n)) ∙ ap (λ (a : ℕ). p.q * num + a) c

    -- the table stays the same
    pub stays : (n : ℕ) → t n / num ≡ t 0 / num
    stays n =
        let z : 0 < num = omega (arith, p.inside) in
        ap (λ (a : ℕ). a / num) (goes n) ∙ (digits_div p.q (mod-lt (p.r + n * d) z) ∙ sym (ap (λ (a : ℕ). a / num) p.at ∙ digits_div p.q p.inside))

    -- as many steps as there are entries come back: num / s times d is a multiple of num
    pub returns : t (num / s) ≡ t 0
    returns =
        let m : num ≡ s * suc div.e = div.is ∙ rw (mul-suc s div.e, ← div.steps) refl in
        let c : num / s ≡ suc div.e = rw m (mul-div_cancel_left (suc div.e) div.pos) in
        let f : suc div.e * d ≡ num * w.times = rw (w.by, ← mul_assoc (suc div.e) s w.times, mul_comm (suc div.e) s, ← m) refl in
        let b : (p.r + num / s * d) % num ≡ p.r = rw (c, f) (add-mul-mod_self_left p.r num w.times ∙ mod-eq_of_lt p.inside) in
        goes (num / s) ∙ (ap (λ (a : ℕ). p.q * num + a) b ∙ sym p.at)

  -- and n steps of the rest of the table undo n steps
  pub undone :
      (t u : ℕ → ℕ) (d c : ℕ) → Walk s num div.j d t → Walk s num div.j c u → d + c ≡ num → Place s num div.j (t 0) → (n : ℕ) →
      u 0 ≡ t n → u n ≡ t 0
  undone t u d c w v total p n start =
      let g : t n ≡ p.q * num + (p.r + n * d) % num = goes t d w p n in
      let f : n * d + n * c ≡ n * num = sym (mul-add n d c) ∙ ap (λ (a : ℕ). n * a) total in
      let b : ((p.r + n * d) % num + n * c) % num ≡ p.r =
      mod-add-mod (p.r + n * d) num (n * c)
      ∙ rw (add_assoc p.r (n * d) (n * c), f) (add-mul-mod_self_right p.r n num ∙ mod-eq_of_lt p.inside) in
      goes u c v (there t d w p n (u 0) (start ∙ g)) n ∙ (ap (λ (a : ℕ). p.q * num + a) b ∙ sym p.at)
