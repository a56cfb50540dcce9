-- Document 01, "Meaning": a recording, the truth of a state assertion at an instant and of a formula on an interval (durations and chop
-- are those of duration calculus, over instants).
use Rattle.std.specs.Prelude.{Bool, true, false, not, ◌&&◌, ◌||◌, List, ℕ, zero, suc, ◌+◌, ◌-◌, ◌/◌, ◌%◌, ◌^◌, eqb, leb, ltb, get_or}
use Rattle.interval.specs.declared.Interval.{Interval}
use Rattle.paper_grammar.specs.Trees.{and, or, chop, Tree, constant, letter, negation, pair, duration, throughout}
use Rattle.paper_grammar.specs.declared.Sort.{Sort}
use Rattle.paper_grammar.specs.declared.Sort.TheVariants.{State, Formula}

-- bit c of a number is 1: "bit 0 lowest"
unfoldable pub bit_at : ℕ → ℕ → Bool
bit_at b c = eqb (b / 2 ^ c % 2) 1

-- "byte t is instant t, bit c is channel c, 1 for high"
unfoldable pub channel_at : List ℕ → ℕ → ℕ → Bool
channel_at recording c t = bit_at (get_or recording t 0) c

-- 1 for true
abbrev pub bit : Bool → ℕ
bit false = 0
bit true = 1

-- at how many of the n instants from i on f is true
unfoldable pub highs : (ℕ → Bool) → ℕ → ℕ → ℕ
highs f i zero = 0
highs f i (suc n) = highs f i n + bit (f (i + n))

-- f is true at every one of the n instants from i on
unfoldable pub every : (ℕ → Bool) → ℕ → ℕ → Bool
every f i zero = true
every f i (suc n) = every f i n && f (i + n)

-- f is true at some of the n numbers from i on
unfoldable pub any : (ℕ → Bool) → ℕ → ℕ → Bool
any f i zero = false
any f i (suc n) = any f i n || f (i + n)

-- "`#S>=n` on [i, j]: S is true at n or more of its instants", "the instants i to j − 1"
unfoldable pub lasts : ℕ → (ℕ → Bool) → Interval → Bool
lasts n f v = leb n (highs f v.i (v.j - v.i))

-- "`[S]`: S is true at every instant of the interval", and, by request C-12, "only on an interval with at least one instant"
unfoldable pub fills : (ℕ → Bool) → Interval → Bool
fills f v = ltb v.i v.j && every f v.i (v.j - v.i)

-- "`(P;Q)`: some m with i ≤ m ≤ j has P on [i, m] and Q on [m, j]"
unfoldable pub chops : (Interval → Bool) → (Interval → Bool) → Interval → Bool
chops f g v = any (λ m. f (record { i = v.i; j = m }) && g (record { i = m; j = v.j })) v.i (suc v.j - v.i)

-- where a part is judged: a state assertion at an instant, a formula on an interval
abbrev pub Point : Sort → Type 0
Point State = ℕ
Point Formula = Interval

-- "S at an instant is ordinary truth, a letter being that channel's bit"; "The others are as written, on the same interval."
unfoldable pub truth : {s : Sort} → List ℕ → Tree s → Point s → Bool
truth recording (constant v) p = v
truth recording (letter c) t = channel_at recording c t
truth recording (negation x) p = not (truth recording x p)
truth recording (pair and x y) p = truth recording x p && truth recording y p
truth recording (pair or x y) p = truth recording x p || truth recording y p
truth recording (pair chop x y) v = chops (truth recording x) (truth recording y) v
truth recording (duration x n) v = lasts n (truth recording x) v
truth recording (throughout x) v = fills (truth recording x) v

-- a formula on an interval
abbrev pub holds : List ℕ → Tree Formula → Interval → Bool
holds recording x v = truth recording x v
