-- Places at which a test fails, one more; and that no header is read behind the last byte.
use Rattle.std.proofs.Common.{◌≡◌, ⊎_elim, ℕ, suc, ◌+◌, ◌<◌, ◌≤◌, Bool, true, false, is_ok, List, [], Result, Ok, Err, take, drop, length, refl, sym, ap, subst, ◌∙◌, arith}
use Rattle.std.proofs.lemmas.List.{drop_all}
use Rattle.wc_config.specs.declared.stream_info.StreamInfo.{StreamInfo}
use Rattle.flac_definitions.specs.Bits.{Place, start_of}
use Rattle.flac_definitions.specs.Header.{header_at, codes_at}
use Rattle.flac_definitions.specs.declared.fault.HeaderFault.{HeaderFault}
use Rattle.flac_definitions.specs.declared.fault.HeaderFault.TheVariants as fault
use Rattle.flac_definitions.specs.declared.header.FrameHeader.{FrameHeader}
use Rattle.flac_frame.specs.Reading.{Gives}
use Rattle.flac_decode.specs.FrameEnd.{most}
use Rattle.flac_stream.specs.Next.{header_from, has_header, has_cut_header, is_cut, FailsBetween}
use Rattle.flac_stream.proofs.BlockLaws.{split}

pub one_more : (test : ℕ → Bool) (from at : ℕ) → FailsBetween test from at → test at ≡ false → FailsBetween test from (at + 1)
one_more test from at before here i ge lt =
    ⊎_elim (λ (inside : i < at). before i ge inside) (λ (behind : at ≤ i). let e : at ≡ i = omega (arith, lt, behind) in subst (λ k. test k ≡ false) e here) (split i at)

nothing : (info : StreamInfo) → header_at info (start_of []) ≡ Err (fault.Short 0)
unfolding header_at codes_at
nothing info = refl

no_bytes : (info : StreamInfo) (bytes : List ℕ) (i : ℕ) → length bytes ≤ i → header_from info bytes i ≡ Err (fault.Short 0)
no_bytes info bytes i le = let none : drop i bytes ≡ [] = drop_all i bytes le in ap (λ (l : List ℕ). header_at info (start_of (take most l))) none ∙ nothing info

pub none_behind : (info : StreamInfo) (bytes : List ℕ) (from at : ℕ) → FailsBetween (has_header info bytes) from at → length bytes ≤ at → (i : ℕ) → from ≤ i → has_header info bytes i ≡ false
none_behind info bytes from at before le i ge =
    ⊎_elim (λ (inside : i < at). before i ge inside) (λ (behind : at ≤ i). ap (λ (x : Result (FrameHeader × Place) HeaderFault). is_ok x) (no_bytes info bytes i (omega (arith, le, behind)))) (split i at)

pub cut_behind : (info : StreamInfo) (bytes : List ℕ) (at : ℕ) → length bytes ≤ at → has_cut_header info bytes at ≡ true
cut_behind info bytes at le = ap (λ (x : Result (FrameHeader × Place) HeaderFault). is_cut x) (no_bytes info bytes at le)

-- what was read of a header tells whether there is one, or one that is cut
pub told : (info : StreamInfo) (p q : Place) (r : Result FrameHeader HeaderFault) (bytes : List ℕ) (at : ℕ) → p ≡ start_of (take most (drop at bytes)) → Gives (header_at info p) r q
    → (is_ok r ≡ has_header info bytes at) × (is_cut r ≡ has_cut_header info bytes at)
told info p q (Ok h) bytes at e g =
    let k : header_from info bytes at ≡ Ok (h, q) = ap (λ (x : Place). header_at info x) (sym e) ∙ g in
    (sym (ap (λ (x : Result (FrameHeader × Place) HeaderFault). is_ok x) k), sym (ap (λ (x : Result (FrameHeader × Place) HeaderFault). is_cut x) k))
told info p q (Err f) bytes at e g =
    let k : header_from info bytes at ≡ Err f = ap (λ (x : Place). header_at info x) (sym e) ∙ g in
    (sym (ap (λ (x : Result (FrameHeader × Place) HeaderFault). is_ok x) k), sym (ap (λ (x : Result (FrameHeader × Place) HeaderFault). is_cut x) k))
