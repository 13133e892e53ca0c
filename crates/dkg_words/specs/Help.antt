-- The help.
use Rattle.std.specs.Prelude.{ℕ, List, codes}

abbrev pub help_text : List ℕ
help_text = codes "dkg run < SCRIPT     runs the script on standard input, and writes its transcript\ndkg make N           runs the script that is made of the number N, and writes a summary of it\ndkg make N script    writes the text of that script\n\nA script comes by standard input, never by its name. docs/SCRIPT.md has its grammar, line by line, and\nexamples/README.md fifteen of them, told. The devices live in memory, and the ceremony hides nothing\n(README.md, \"Who is covered\").\n\nStatus  Last line on standard output\n0       done          every life was run\n2       usage         these words are no command\n3       bad PLACE     the text is no script: at this byte begins a line that no script has there\n4       fault ..      the node stopped for good (docs/SCRIPT.md, \"Faults\")\n5       fault 2 or 3  the disk or the secret store failed\n6                     memory ran out\n7                     standard input could not be read\n8                     standard output could not be written\n9                     standard input has more than 16777216 bytes\n10      unsupported   the script has a line that isn't run yet\n\nA line on standard error says which line of the script it is, and what is wrong with it.\n"
