-- Each mnemonic is found by its name.
use Rattle.std.proofs.Common.{refl}
use Rattle.xt_isa.specs.declared.three.BitwiseName.TheVariants as BitwiseName
use Rattle.xt_isa.specs.declared.three.SumName.TheVariants as SumName
use Rattle.xt_isa.specs.declared.three.DifferenceName.TheVariants as DifferenceName
use Rattle.xt_isa.specs.declared.three.Mul16Name.TheVariants as Mul16Name
use Rattle.xt_isa.specs.declared.three.MulHighName.TheVariants as MulHighName
use Rattle.xt_isa.specs.declared.three.DivideName.TheVariants as DivideName
use Rattle.xt_isa.specs.declared.three.MinMaxName.TheVariants as MinMaxName
use Rattle.xt_isa.specs.declared.three.MoveName.TheVariants as MoveName
use Rattle.xt_isa.specs.declared.shift.SignName.TheVariants as SignName
use Rattle.xt_isa.specs.declared.shift.ShiftRightName.TheVariants as ShiftRightName
use Rattle.xt_isa.specs.declared.shift.SignedName.TheVariants as SignedName
use Rattle.xt_isa.specs.declared.shift.NormalizeName.TheVariants as NormalizeName
use Rattle.xt_isa.specs.declared.shift.AmountName.TheVariants as AmountName
use Rattle.xt_isa.specs.declared.shift.ByteAmountName.TheVariants as ByteAmountName
use Rattle.xt_isa.specs.declared.memory.ByteName.TheVariants as ByteName
use Rattle.xt_isa.specs.declared.memory.HalfName.TheVariants as HalfName
use Rattle.xt_isa.specs.declared.memory.WordName.TheVariants as WordName
use Rattle.xt_isa.specs.declared.memory.WindowName.TheVariants as WindowName
use Rattle.xt_isa.specs.declared.control.CallName.TheVariants as calls
use Rattle.xt_isa.specs.declared.control.ReturnName.TheVariants as ReturnName
use Rattle.xt_isa.specs.declared.control.CallxName.TheVariants as CallxName
use Rattle.xt_isa.specs.declared.control.ZeroName.TheVariants as ZeroName
use Rattle.xt_isa.specs.declared.control.ConstName.TheVariants as ConstName
use Rattle.xt_isa.specs.declared.control.ConstuName.TheVariants as ConstuName
use Rattle.xt_isa.specs.declared.control.BranchName.TheVariants as BranchName
use Rattle.xt_isa.specs.declared.control.OppositeName.TheVariants as OppositeName
use Rattle.xt_isa.specs.declared.control.BitName.TheVariants as BitName
use Rattle.xt_isa.specs.declared.control.LoopName.TheVariants as LoopName
use Rattle.xt_isa.specs.declared.system.SyncName.TheVariants as SyncName
use Rattle.xt_isa.specs.declared.system.WaitName.TheVariants as WaitName
use Rattle.xt_isa.specs.declared.system.ExceptionReturnName.TheVariants as ExceptionReturnName
use Rattle.xt_isa.specs.declared.system.SpecialName.TheVariants as SpecialName
use Rattle.xt_isa.specs.declared.system.UserName.TheVariants as UserName
use Rattle.xt_isa.specs.declared.density.NarrowName.TheVariants as NarrowName
use Rattle.xt_isa.specs.declared.density.NarrowZeroName.TheVariants as NarrowZeroName
use Rattle.xt_isa.specs.declared.density.BareName.TheVariants as BareName
use Rattle.xt_isa.specs.declared.boolean.LogicName.TheVariants as LogicName
use Rattle.xt_isa.specs.declared.boolean.FourName.TheVariants as FourName
use Rattle.xt_isa.specs.declared.boolean.EightName.TheVariants as EightName
use Rattle.xt_isa.specs.declared.boolean.TestName.TheVariants as TestName
use Rattle.xt_isa.specs.declared.boolean.ChoiceName.TheVariants as ChoiceName
use Rattle.xt_names.specs.declared.mnemonic.Mnemonic.TheVariants as mnemonic
use Rattle.xt_names.specs.declared.mnemonic.Plain.TheVariants as plain
use Rattle.xt_names.specs.declared.mnemonic.One.TheVariants as one
use Rattle.xt_names.specs.declared.mnemonic.Two.TheVariants as two
use Rattle.xt_names.specs.declared.mnemonic.Three.TheVariants as triple
use Rattle.xt_names.specs.declared.mnemonic.Number.TheVariants as numeric
use Rattle.xt_names.specs.declared.mnemonic.OneAndNumber.TheVariants as one_number
use Rattle.xt_names.specs.declared.mnemonic.OneAndSpecial.TheVariants as one_special
use Rattle.xt_names.specs.declared.mnemonic.OneAndTarget.TheVariants as one_target
use Rattle.xt_names.specs.declared.mnemonic.OneNumberAndTarget.TheVariants as one_number_target
use Rattle.xt_names.specs.declared.mnemonic.TwoAndNumber.TheVariants as two_number
use Rattle.xt_names.specs.declared.mnemonic.TwoAndTarget.TheVariants as two_target
use Rattle.xt_names.specs.declared.mnemonic.Mnemonic.{Mnemonic}
use Rattle.xt_names.specs.NameLaws.{EndsInN, IsFound}
use Rattle.xt_names.specs.Names.{call_name, mnemonic_of, mnemonics, name_of, number_name, one_and_number_name, one_and_special_name, one_and_target_name, one_name, one_number_and_target_name, plain_name, three_name, two_and_number_name, two_and_target_name, two_name}

pub found : (m : Mnemonic) → IsFound m × EndsInN m
unfolding mnemonic_of mnemonics name_of call_name number_name one_and_number_name one_and_special_name one_and_target_name one_name one_number_and_target_name plain_name three_name two_and_number_name two_and_target_name two_name
found (mnemonic.Two (two.Sign SignName.Abs)) = (refl, refl)
found (mnemonic.Three (triple.Sum SumName.Add)) = (refl, refl)
found (mnemonic.Three triple.AddNarrow) = (refl, refl)
found (mnemonic.TwoAndNumber two_number.Addi) = (refl, refl)
found (mnemonic.TwoAndNumber two_number.AddiNarrow) = (refl, refl)
found (mnemonic.TwoAndNumber two_number.Addmi) = (refl, refl)
found (mnemonic.Three (triple.Sum SumName.Addx2)) = (refl, refl)
found (mnemonic.Three (triple.Sum SumName.Addx4)) = (refl, refl)
found (mnemonic.Three (triple.Sum SumName.Addx8)) = (refl, refl)
found (mnemonic.Two (two.Four FourName.All4)) = (refl, refl)
found (mnemonic.Two (two.Eight EightName.All8)) = (refl, refl)
found (mnemonic.Three (triple.Bitwise BitwiseName.And)) = (refl, refl)
found (mnemonic.Three (triple.Logic LogicName.Andb)) = (refl, refl)
found (mnemonic.Three (triple.Logic LogicName.Andbc)) = (refl, refl)
found (mnemonic.Two (two.Four FourName.Any4)) = (refl, refl)
found (mnemonic.Two (two.Eight EightName.Any8)) = (refl, refl)
found (mnemonic.TwoAndTarget (two_target.Branch BranchName.Ball)) = (refl, refl)
found (mnemonic.TwoAndTarget (two_target.BranchNot OppositeName.Bany)) = (refl, refl)
found (mnemonic.TwoAndTarget (two_target.Branch BranchName.Bbc)) = (refl, refl)
found (mnemonic.OneNumberAndTarget (one_number_target.BranchBit BitName.Bbci)) = (refl, refl)
found (mnemonic.TwoAndTarget (two_target.BranchNot OppositeName.Bbs)) = (refl, refl)
found (mnemonic.OneNumberAndTarget (one_number_target.BranchBit BitName.Bbsi)) = (refl, refl)
found (mnemonic.TwoAndTarget (two_target.Branch BranchName.Beq)) = (refl, refl)
found (mnemonic.OneNumberAndTarget (one_number_target.BranchConst ConstName.Beqi)) = (refl, refl)
found (mnemonic.OneAndTarget (one_target.BranchZero ZeroName.Beqz)) = (refl, refl)
found (mnemonic.OneAndTarget (one_target.BranchZeroNarrow NarrowZeroName.Beqz)) = (refl, refl)
found (mnemonic.OneAndTarget (one_target.Test TestName.Bf)) = (refl, refl)
found (mnemonic.TwoAndTarget (two_target.BranchNot OppositeName.Bge)) = (refl, refl)
found (mnemonic.OneNumberAndTarget (one_number_target.BranchConst ConstName.Bgei)) = (refl, refl)
found (mnemonic.TwoAndTarget (two_target.BranchNot OppositeName.Bgeu)) = (refl, refl)
found (mnemonic.OneNumberAndTarget (one_number_target.BranchConstu ConstuName.Bgeui)) = (refl, refl)
found (mnemonic.OneAndTarget (one_target.BranchZero ZeroName.Bgez)) = (refl, refl)
found (mnemonic.TwoAndTarget (two_target.Branch BranchName.Blt)) = (refl, refl)
found (mnemonic.OneNumberAndTarget (one_number_target.BranchConst ConstName.Blti)) = (refl, refl)
found (mnemonic.TwoAndTarget (two_target.Branch BranchName.Bltu)) = (refl, refl)
found (mnemonic.OneNumberAndTarget (one_number_target.BranchConstu ConstuName.Bltui)) = (refl, refl)
found (mnemonic.OneAndTarget (one_target.BranchZero ZeroName.Bltz)) = (refl, refl)
found (mnemonic.TwoAndTarget (two_target.BranchNot OppositeName.Bnall)) = (refl, refl)
found (mnemonic.TwoAndTarget (two_target.BranchNot OppositeName.Bne)) = (refl, refl)
found (mnemonic.OneNumberAndTarget (one_number_target.BranchConst ConstName.Bnei)) = (refl, refl)
found (mnemonic.OneAndTarget (one_target.BranchZero ZeroName.Bnez)) = (refl, refl)
found (mnemonic.OneAndTarget (one_target.BranchZeroNarrow NarrowZeroName.Bnez)) = (refl, refl)
found (mnemonic.TwoAndTarget (two_target.Branch BranchName.Bnone)) = (refl, refl)
found mnemonic.Break = (refl, refl)
found (mnemonic.Number numeric.BreakNarrow) = (refl, refl)
found (mnemonic.OneAndTarget (one_target.Test TestName.Bt)) = (refl, refl)
found (mnemonic.Call calls.Call0) = (refl, refl)
found (mnemonic.Call calls.Call12) = (refl, refl)
found (mnemonic.Call calls.Call4) = (refl, refl)
found (mnemonic.Call calls.Call8) = (refl, refl)
found (mnemonic.One (one.Callx CallxName.Callx0)) = (refl, refl)
found (mnemonic.One (one.Callx CallxName.Callx12)) = (refl, refl)
found (mnemonic.One (one.Callx CallxName.Callx4)) = (refl, refl)
found (mnemonic.One (one.Callx CallxName.Callx8)) = (refl, refl)
found (mnemonic.TwoAndNumber (two_number.Signed SignedName.Clamps)) = (refl, refl)
found (mnemonic.Nothing (plain.Sync SyncName.Dsync)) = (refl, refl)
found (mnemonic.OneAndNumber one_number.Entry) = (refl, refl)
found (mnemonic.Nothing (plain.Sync SyncName.Esync)) = (refl, refl)
found (mnemonic.Nothing (plain.Wait WaitName.Excw)) = (refl, refl)
found mnemonic.Extui = (refl, refl)
found (mnemonic.Nothing (plain.Wait WaitName.Extw)) = (refl, refl)
found (mnemonic.Nothing (plain.Sync SyncName.Ill)) = (refl, refl)
found (mnemonic.Nothing (plain.Bare BareName.Ill)) = (refl, refl)
found (mnemonic.Nothing (plain.Sync SyncName.Isync)) = (refl, refl)
found mnemonic.Jump = (refl, refl)
found (mnemonic.One one.Jx) = (refl, refl)
found (mnemonic.TwoAndNumber (two_number.Half HalfName.L16si)) = (refl, refl)
found (mnemonic.TwoAndNumber (two_number.Half HalfName.L16ui)) = (refl, refl)
found (mnemonic.TwoAndNumber (two_number.Word WordName.L32ai)) = (refl, refl)
found (mnemonic.TwoAndNumber (two_number.Window WindowName.L32e)) = (refl, refl)
found (mnemonic.TwoAndNumber (two_number.Word WordName.L32i)) = (refl, refl)
found (mnemonic.TwoAndNumber (two_number.WordNarrow NarrowName.L32i)) = (refl, refl)
found mnemonic.Literal = (refl, refl)
found (mnemonic.TwoAndNumber (two_number.Byte ByteName.L8ui)) = (refl, refl)
found (mnemonic.OneAndTarget (one_target.Loop LoopName.Loop)) = (refl, refl)
found (mnemonic.OneAndTarget (one_target.Loop LoopName.Loopgtz)) = (refl, refl)
found (mnemonic.OneAndTarget (one_target.Loop LoopName.Loopnez)) = (refl, refl)
found (mnemonic.Three (triple.MinMax MinMaxName.Max)) = (refl, refl)
found (mnemonic.Three (triple.MinMax MinMaxName.Maxu)) = (refl, refl)
found (mnemonic.Nothing (plain.Wait WaitName.Memw)) = (refl, refl)
found (mnemonic.Three (triple.MinMax MinMaxName.Min)) = (refl, refl)
found (mnemonic.Three (triple.MinMax MinMaxName.Minu)) = (refl, refl)
found (mnemonic.Two two.Mov) = (refl, refl)
found (mnemonic.Two two.MovNarrow) = (refl, refl)
found (mnemonic.Three (triple.Move MoveName.Moveqz)) = (refl, refl)
found (mnemonic.Three (triple.Choice ChoiceName.Movf)) = (refl, refl)
found (mnemonic.Three (triple.Move MoveName.Movgez)) = (refl, refl)
found (mnemonic.OneAndNumber one_number.Movi) = (refl, refl)
found (mnemonic.OneAndNumber one_number.MoviNarrow) = (refl, refl)
found (mnemonic.Three (triple.Move MoveName.Movltz)) = (refl, refl)
found (mnemonic.Three (triple.Move MoveName.Movnez)) = (refl, refl)
found (mnemonic.Two two.Movsp) = (refl, refl)
found (mnemonic.Three (triple.Choice ChoiceName.Movt)) = (refl, refl)
found (mnemonic.Three (triple.Mul16 Mul16Name.Mul16s)) = (refl, refl)
found (mnemonic.Three (triple.Mul16 Mul16Name.Mul16u)) = (refl, refl)
found (mnemonic.Three triple.Mull) = (refl, refl)
found (mnemonic.Three (triple.MulHigh MulHighName.Mulsh)) = (refl, refl)
found (mnemonic.Three (triple.MulHigh MulHighName.Muluh)) = (refl, refl)
found (mnemonic.Two (two.Sign SignName.Neg)) = (refl, refl)
found (mnemonic.Nothing (plain.Wait WaitName.Nop)) = (refl, refl)
found (mnemonic.Nothing (plain.Bare BareName.Nop)) = (refl, refl)
found (mnemonic.Two (two.Normalize NormalizeName.Nsa)) = (refl, refl)
found (mnemonic.Two (two.Normalize NormalizeName.Nsau)) = (refl, refl)
found (mnemonic.Three (triple.Bitwise BitwiseName.Or)) = (refl, refl)
found (mnemonic.Three (triple.Logic LogicName.Orb)) = (refl, refl)
found (mnemonic.Three (triple.Logic LogicName.Orbc)) = (refl, refl)
found (mnemonic.Three (triple.Divide DivideName.Quos)) = (refl, refl)
found (mnemonic.Three (triple.Divide DivideName.Quou)) = (refl, refl)
found (mnemonic.Three (triple.Divide DivideName.Rems)) = (refl, refl)
found (mnemonic.Three (triple.Divide DivideName.Remu)) = (refl, refl)
found (mnemonic.Nothing (plain.Return ReturnName.Ret)) = (refl, refl)
found (mnemonic.Nothing (plain.Bare BareName.Ret)) = (refl, refl)
found (mnemonic.Nothing (plain.Return ReturnName.Retw)) = (refl, refl)
found (mnemonic.Nothing (plain.Bare BareName.Retw)) = (refl, refl)
found (mnemonic.Nothing (plain.ExceptionReturn ExceptionReturnName.Rfde)) = (refl, refl)
found (mnemonic.Nothing (plain.ExceptionReturn ExceptionReturnName.Rfe)) = (refl, refl)
found (mnemonic.Number numeric.Rfi) = (refl, refl)
found (mnemonic.Nothing (plain.ExceptionReturn ExceptionReturnName.Rfwo)) = (refl, refl)
found (mnemonic.Nothing (plain.ExceptionReturn ExceptionReturnName.Rfwu)) = (refl, refl)
found (mnemonic.Number numeric.Rotw) = (refl, refl)
found (mnemonic.OneAndNumber one_number.Rsil) = (refl, refl)
found (mnemonic.OneAndSpecial (one_special.Special SpecialName.Rsr)) = (refl, refl)
found (mnemonic.Nothing (plain.Sync SyncName.Rsync)) = (refl, refl)
found (mnemonic.OneAndSpecial (one_special.User UserName.Rur)) = (refl, refl)
found (mnemonic.TwoAndNumber (two_number.Half HalfName.S16i)) = (refl, refl)
found (mnemonic.TwoAndNumber two_number.S32c1i) = (refl, refl)
found (mnemonic.TwoAndNumber (two_number.Window WindowName.S32e)) = (refl, refl)
found (mnemonic.TwoAndNumber (two_number.Word WordName.S32i)) = (refl, refl)
found (mnemonic.TwoAndNumber (two_number.WordNarrow NarrowName.S32i)) = (refl, refl)
found (mnemonic.TwoAndNumber (two_number.Word WordName.S32ri)) = (refl, refl)
found (mnemonic.TwoAndNumber (two_number.Byte ByteName.S8i)) = (refl, refl)
found (mnemonic.TwoAndNumber (two_number.Signed SignedName.Sext)) = (refl, refl)
found (mnemonic.Two two.Sll) = (refl, refl)
found (mnemonic.TwoAndNumber two_number.Slli) = (refl, refl)
found (mnemonic.Two (two.ShiftRight ShiftRightName.Sra)) = (refl, refl)
found (mnemonic.TwoAndNumber two_number.Srai) = (refl, refl)
found (mnemonic.Three triple.Src) = (refl, refl)
found (mnemonic.Two (two.ShiftRight ShiftRightName.Srl)) = (refl, refl)
found (mnemonic.TwoAndNumber two_number.Srli) = (refl, refl)
found (mnemonic.One (one.ByteAmount ByteAmountName.Ssa8b)) = (refl, refl)
found (mnemonic.One (one.ByteAmount ByteAmountName.Ssa8l)) = (refl, refl)
found (mnemonic.Number numeric.Ssai) = (refl, refl)
found (mnemonic.One (one.Amount AmountName.Ssl)) = (refl, refl)
found (mnemonic.One (one.Amount AmountName.Ssr)) = (refl, refl)
found (mnemonic.Three (triple.Difference DifferenceName.Sub)) = (refl, refl)
found (mnemonic.Three (triple.Difference DifferenceName.Subx2)) = (refl, refl)
found (mnemonic.Three (triple.Difference DifferenceName.Subx4)) = (refl, refl)
found (mnemonic.Three (triple.Difference DifferenceName.Subx8)) = (refl, refl)
found (mnemonic.Nothing plain.Syscall) = (refl, refl)
found (mnemonic.Number numeric.Waiti) = (refl, refl)
found (mnemonic.OneAndSpecial (one_special.Special SpecialName.Wsr)) = (refl, refl)
found (mnemonic.OneAndSpecial (one_special.User UserName.Wur)) = (refl, refl)
found (mnemonic.Three (triple.Bitwise BitwiseName.Xor)) = (refl, refl)
found (mnemonic.Three (triple.Logic LogicName.Xorb)) = (refl, refl)
found (mnemonic.OneAndSpecial (one_special.Special SpecialName.Xsr)) = (refl, refl)
