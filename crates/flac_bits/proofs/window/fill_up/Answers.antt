use Rattle.std.proofs.Common.{◌≡◌, ◌≤◌, ◌<◌, ◌+◌, ◌-◌, ◌/◌, ◌^◌, ℕ, List, length, take, drop, arith, subst, ap, length-take, length-drop}
use Rattle.flac_definitions.specs.Bits.{bits_in}
use Rattle.flac_definitions.specs.BitLaws.{number_of-lt, length-bits_in}
use Rattle.flac_bits.specs.Window.{IsWindow}
use Rattle.flac_bits.specs.WindowLaws.{joined_window}
use Rattle.flac_bits.proofs.window.fill_up.Goals as goal

joined : (bytes : List ℕ) (end word valid next more : ℕ) → valid ≤ end → IsWindow bytes (end - valid) word valid → IsWindow bytes end next more → next < 2 ^ 64 → 64 ≤ valid + more → IsWindow bytes (end - valid) (word + next / 2 ^ valid) 64
joined bytes end word valid next more b w v fits h =
    joined_window bytes (end - valid) word valid next more w (subst (λ (n : ℕ). IsWindow bytes n next more) (let s : end ≡ end - valid + valid = omega arith in s) v) fits h

-- a full window is a word
full : (bytes : List ℕ) (at word : ℕ) → IsWindow bytes at word 64 → word < 2 ^ 64
full bytes at word w =
    let front = take 64 (drop at (bits_in bytes)) in
    let l : length front ≡ 64 = omega (arith, length-take 64 (drop at (bits_in bytes)), length-drop at (bits_in bytes), length-bits_in bytes, w.there) in
    omega (arith, w.front, number_of-lt front, ap (λ n. 2 ^ n) l)

pub overflow_add-result : goal.overflow_add-result
overflow_add-result c =
    let w = joined c.args.bytes.now c.args.end c.args.window.word c.args.window.valid c.window_at-next.result.word c.window_at-next.result.valid c.requires.behind c.requires.window c.window_at-next.ensures.window (omega arith) (omega (arith, c.window_at-next.ensures.valid)) in
    let small = full c.args.bytes.now (c.args.end - c.args.window.valid) (c.args.window.word + c.window_at-next.result.word / 2 ^ c.args.window.valid) w in record { fits = small }

pub returns-clause-window : goal.returns-clause-window
returns-clause-window c =
    joined c.args.bytes.now c.args.end c.args.window.word c.args.window.valid c.window_at-next.result.word c.window_at-next.result.valid c.requires.behind c.requires.window c.window_at-next.ensures.window (omega arith) (omega (arith, c.window_at-next.ensures.valid))
