-- The bytes so far, and those of the pairs that are left.
use Rattle.std.proofs.Common.{◌≡◌, take, drop}
use Rattle.decoder.specs.Hexadecimal.{hex_bytes}
use Rattle.decoder.proofs.Pairs.{behind, bytes_of}
use Rattle.decoder.proofs.hex.HexDecoderDecoder.decode.Given as goal

abbrev pub invariant-loop-i : goal.invariant-loop-i
invariant-loop-i l = behind (take l.i l.part) (bytes_of (drop l.i l.pairs)) ≡ hex_bytes l.self.digits.now
