-- The opcode lists: OpcodeList1, OpcodeList3, OpcodeList2.
use Rattle.directory.specs.Names.{opcode_list1, opcode_list2, opcode_list3}
use Rattle.std.specs.Prelude.{false}
use Rattle.reading.specs.Reading.{Reading}
use Rattle.directory.specs.Out.{Out, bind}
use Rattle.directory.specs.Tag.{values_reading, not_carried, rule}
use Rattle.directory.specs.declared.Ifd.{Ifd}
use Rattle.directory.specs.declared.tag.Kinds.TheVariants as kinds
use Rattle.directory.specs.declared.tag.Rule.{Rule}
use Rattle.directory.specs.declared.tag.Values.{Values}

abbrev pub list_rule : Rule
list_rule = rule false opcode_list2 kinds.Undefined 4 0xFFFF_FFFF_FFFF_FFFF

-- "51008, 51022: if present with any type, not carried. 51009: UNDEFINED, 4 bytes or more"
unfoldable pub list_tag_reading : Ifd → Reading (Out Values)
list_tag_reading d = bind (not_carried d opcode_list1) (λ _. bind (not_carried d opcode_list3) (λ _. values_reading d list_rule))
